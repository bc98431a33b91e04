-- The functions of a unit, one step of the judging after another.
use Rattle.std.proofs.Common.{◌≡◌, ℕ, Bool, true, List, [], ◌∷◌, ◌++◌, map, Option, sym, ap, subst, ◌∙◌}
use Rattle.std.specs.List.{list_all}
use Rattle.dcv_lexer.specs.Cuts.{Token}
use Rattle.dcv_observer.specs.Conditions.{Names}
use Rattle.dcv_observer.specs.Left.{seen}
use Rattle.dcv_observer.specs.declared.items.Item.{Item}
use Rattle.dcv_observer.specs.Naming.{is_among}
use Rattle.dcv_c.specs.Tree.{CUnit}
use Rattle.dcv_c.specs.Placed.{unit_of, bytes_of, assignment_of, statement_of}
use Rattle.dcv_c.specs.Rules.{keeps_new, keeps_apart, keeps_parameters, keeps_assignments, keeps_statements, before_locals, before_parameters, words_of_returned, has_all_assignments}
use Rattle.dcv_c_read.specs.declared.placed.PlacedUnit.{PlacedUnit as CodeUnit}
use Rattle.dcv_c_read.specs.declared.placed.PlacedReset.{PlacedReset}
use Rattle.dcv_c_read.specs.declared.placed.PlacedAssignment.{PlacedAssignment}
use Rattle.dcv_c_read.specs.declared.placed.PlacedStatement.{PlacedStatement}
use Rattle.dcv_c_read.specs.declared.scope.Scope.{Scope}
use Rattle.dcv_c_read.specs.Seen.{seen_unit, seen_assignment, seen_statement, seen_returned}
use Rattle.dcv_c_read.specs.Scope.{Frame, with_known, of_statics, Knows, KnowsAssigned}
use Rattle.dcv_observer.specs.Judged.{IsLeft}
use Rattle.dcv_c_read.specs.Judged.{words_of_assignments, names_of_assignments, words_of_statements}
use Rattle.dcv_c_read.specs.Contents.{first_fault_of, words_of_step, keeps_step}
use Rattle.dcv_c_read.proofs.Known.{known_as}
use Rattle.dcv_c_read.proofs.Named.{unit_begins, all_assigned, all_as}

-- ---- reset

module _ (reset : PlacedReset) (statics : Names) (whole : Option ℕ) (words : List Token) (keeps : List Bool) where
  abbrev pub assigned : Names
  assigned = names_of_assignments (map assignment_of (map seen_assignment reset.assignments.items))

  abbrev pub ResetLeft : List PlacedAssignment → Type 0
  ResetLeft items =
      IsLeft whole (words_of_assignments (map seen_assignment items) ++ (seen reset.end ∷ words))
      (keeps_assignments statics [] (map assignment_of (map seen_assignment items)) ++ (list_all (is_among assigned) statics ∷ keeps))

  pub reset_left : {items : List PlacedAssignment} → items ≡ reset.assignments.items → ResetLeft reset.assignments.items → ResetLeft items
  reset_left is left = subst ResetLeft (sym is) left

  pub reset_end : {items : List PlacedAssignment} (frame : Frame) (scope : Scope) (b : Bool) → items ≡ reset.assignments.items → frame.placed ≡ statics
      → (k : KnowsAssigned frame (names_of_assignments (map assignment_of (map seen_assignment items))) scope)
      → ((frame : Frame) → Knows frame scope → b ≡ list_all (is_among frame.known) frame.placed) → list_all (is_among assigned) statics ≡ b
  reset_end {items = items} frame scope b is placed k known =
      let same : (name : List ℕ) → is_among k.known name ≡ is_among assigned name =
      λ name. k.are_assigned name ∙ ap (λ (xs : List PlacedAssignment). is_among (names_of_assignments (map assignment_of (map seen_assignment xs))) name) is in
      sym (all_as k.known assigned statics same) ∙ ap (list_all (is_among k.known)) (sym placed) ∙ sym (known (with_known k.known frame) k.knows)

  pub reset_knows : {names : Names} (frame : Frame) (scope : Scope) → frame.placed ≡ statics → (k : KnowsAssigned frame names scope)
      → ((frame : Frame) → Knows frame scope → true ≡ list_all (is_among frame.known) frame.placed) → Knows (with_known statics frame) scope
  reset_knows frame scope placed k known =
      let all : list_all (is_among k.known) statics ≡ true = ap (list_all (is_among k.known)) (sym placed) ∙ sym (known (with_known k.known frame) k.knows) in
      let within : (name : List ℕ) → is_among k.known name ≡ true → is_among statics name ≡ true =
      λ name some. subst (λ (names : Names). is_among names name ≡ true) placed (k.knows.known_among name some) in
      known_as (with_known k.known frame) _ _ _ k.knows statics (all_assigned statics k.known within all)

-- ---- the whole unit

module _ (placed : CodeUnit) where
  abbrev pub unit_at : CUnit
  unit_at = unit_of (seen_unit placed)

  abbrev pub whole_at : Option ℕ
  whole_at = first_fault_of (seen_unit placed)

  abbrev pub words_behind_statics : List Token
  words_behind_statics =
      seen placed.reset.name ∷ (words_of_assignments (map seen_assignment placed.reset.assignments.items) ++ (seen placed.reset.end ∷ words_of_step (seen_unit placed)))

  abbrev pub keeps_behind_statics : List Bool
  keeps_behind_statics =
      keeps_new unit_at.statics unit_at.reset ∷ (keeps_assignments unit_at.statics [] unit_at.assignments ++ (has_all_assignments unit_at ∷ keeps_step unit_at))

  pub at_statics : {items : List Item} → items ≡ placed.statics.items
      → IsLeft whole_at (map seen items ++ words_behind_statics) (keeps_apart [] (bytes_of (map seen items)) ++ keeps_behind_statics)
  at_statics is =
      subst (λ (xs : List Item). IsLeft whole_at (map seen xs ++ words_behind_statics) (keeps_apart [] (bytes_of (map seen xs)) ++ keeps_behind_statics)) (sym is)
      (unit_begins (seen_unit placed))

  pub knows_statics : {items : List Item} (scope : Scope) → items ≡ placed.statics.items → Knows (of_statics (bytes_of (map seen items))) scope → Knows (of_statics unit_at.statics) scope
  knows_statics scope is knows = subst (λ (xs : List Item). Knows (of_statics (bytes_of (map seen xs))) scope) is knows

  -- ---- its step

  abbrev pub words_behind_parameters : List Token
  words_behind_parameters =
      map seen placed.step.locals.items
      ++ (words_of_statements (map seen_statement placed.step.statements.items) ++ words_of_returned (seen_returned placed.step.returned))

  abbrev pub keeps_behind_parameters : List Bool
  keeps_behind_parameters = keeps_apart (before_locals unit_at) unit_at.locals ++ keeps_statements unit_at (unit_at.statics ++ unit_at.parameters) unit_at.statements

  module _ (whole : Option ℕ) where
    abbrev pub ParametersLeft : List Item → Type 0
    ParametersLeft items =
        IsLeft whole (map seen items ++ words_behind_parameters) (keeps_parameters (before_parameters unit_at) 0 (bytes_of (map seen items)) ++ keeps_behind_parameters)

    pub at_parameters : {items : List Item} → items ≡ placed.step.parameters.items → ParametersLeft placed.step.parameters.items → ParametersLeft items
    at_parameters is left = subst ParametersLeft (sym is) left

    abbrev pub LocalsLeft : List Item → Type 0
    LocalsLeft items =
        IsLeft whole (map seen items ++ (words_of_statements (map seen_statement placed.step.statements.items) ++ words_of_returned (seen_returned placed.step.returned)))
        (keeps_apart (before_locals unit_at) (bytes_of (map seen items)) ++ keeps_statements unit_at (unit_at.statics ++ unit_at.parameters) unit_at.statements)

    pub at_locals : {items : List Item} → items ≡ placed.step.locals.items → LocalsLeft placed.step.locals.items → LocalsLeft items
    at_locals is left = subst LocalsLeft (sym is) left

    abbrev pub StatementsLeft : List PlacedStatement → Type 0
    StatementsLeft items =
        IsLeft whole (words_of_statements (map seen_statement items) ++ words_of_returned (seen_returned placed.step.returned))
        (keeps_statements unit_at (unit_at.statics ++ unit_at.parameters) (map statement_of (map seen_statement items)))

    pub at_statements : {items : List PlacedStatement} → items ≡ placed.step.statements.items → StatementsLeft placed.step.statements.items → StatementsLeft items
    at_statements is left = subst StatementsLeft (sym is) left

  pub knows_with : (with_names : Names → Frame) {items others : List Item} (scope : Scope) → items ≡ others → Knows (with_names (bytes_of (map seen items))) scope
      → Knows (with_names (bytes_of (map seen others))) scope
  knows_with with_names scope is knows = subst (λ (xs : List Item). Knows (with_names (bytes_of (map seen xs))) scope) is knows
