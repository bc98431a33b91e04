-- A statement of the text by its form.
use Rattle.std.proofs.Common.{◌≡◌, ℕ, Bool, List, ◌∷◌, ◌++◌, Option, option_map, Result, Ok, Err, sym, subst}
use Rattle.dcv_lexer.specs.Cuts.{Token}
use Rattle.dcv_observer.specs.Conditions.{Names}
use Rattle.dcv_observer.specs.Left.{seen}
use Rattle.dcv_observer.specs.declared.fault.ObsFault.{ObsFault}
use Rattle.dcv_observer.specs.Naming.{is_among}
use Rattle.dcv_c.specs.declared.unit.Statement.{Statement}
use Rattle.dcv_c.specs.Tree.{CUnit}
use Rattle.dcv_c.specs.Seen.{seen_statement as statement_seen}
use Rattle.dcv_c.specs.Placed.{item_at, condition_of, statement_of}
use Rattle.dcv_c.specs.Rules.{keeps_item, keeps_condition, keeps_statement, known_after, words_of_statement}
use Rattle.dcv_c_read.specs.declared.placed.PlacedStatement.{PlacedStatement}
use Rattle.dcv_c_read.specs.declared.placed.PlacedWhen.{PlacedWhen}
use Rattle.dcv_c_read.specs.declared.scope.Scope.{Scope}
use Rattle.dcv_c_read.specs.Seen.{seen_when, seen_statement}
use Rattle.dcv_c_read.specs.Scope.{Frame, with_known, Knows}
use Rattle.dcv_observer.specs.Judged.{IsLeft, Leads}

module _ (frame : Frame) (unit : CUnit) (whole : Option ℕ) (words : List Token) (keeps : List Bool) (scope : Scope) where
  -- what is told of a statement
  abbrev pub IsToldOf : Result Statement ObsFault → PlacedStatement → Type 0
  IsToldOf result statement =
      IsLeft whole (words_of_statement (seen_statement statement) ++ words) (keeps_statement unit frame.known (statement_of (seen_statement statement)) ++ keeps)
      → Leads whole (λ made. (statement_seen frame.placed made ≡ statement_of (seen_statement statement))
      × Knows (with_known (known_after frame.known (statement_of (seen_statement statement))) frame) scope
      × IsLeft whole words keeps) result

  pub told_by_form : (result : Result Statement ObsFault) {statement form : PlacedStatement} → statement ≡ form → IsToldOf result form → IsToldOf result statement
  told_by_form result is told = subst (IsToldOf result) (sym is) told

  -- what is told of an assignment after `if`
  abbrev pub IsToldOfWhen : Result Statement ObsFault → PlacedWhen → Type 0
  IsToldOfWhen result made =
      IsLeft whole (seen made.name ∷ seen made.left ∷ seen made.item ∷ words)
      (keeps_condition frame.known (condition_of (seen made.name).bytes (option_map seen made.number))
      ∷ is_among frame.lefts (seen made.left).bytes ∷ keeps_item frame.known (item_at (seen made.item)) ∷ keeps)
      → Leads whole (λ told. (statement_seen frame.placed told ≡ statement_of (seen_when made)) × IsLeft whole words keeps) result

  pub told_of_same : (result : Result Statement ObsFault) {made same : PlacedWhen} → made ≡ same → IsToldOfWhen result made → IsToldOfWhen result same
  told_of_same result is told = subst (IsToldOfWhen result) is told

  -- where nothing else is known than before
  pub leads_with_knows : (statement : PlacedStatement) (result : Result Statement ObsFault) → Knows frame scope
      → Leads whole (λ made. (statement_seen frame.placed made ≡ statement_of (seen_statement statement)) × IsLeft whole words keeps) result
      → Leads whole (λ made. (statement_seen frame.placed made ≡ statement_of (seen_statement statement)) × Knows frame scope × IsLeft whole words keeps) result
  leads_with_knows statement (Ok made) knows leads = (leads.0, knows, leads.1)
  leads_with_knows statement (Err fault) knows leads = leads

-- the same left sides
pub first_left : {lefts others : Names} (left : List ℕ) {whole : Option ℕ} {words : List Token} {keeps : List Bool} → others ≡ lefts
    → IsLeft whole words (is_among lefts left ∷ keeps) → IsLeft whole words (is_among others left ∷ keeps)
first_left left {whole = whole} {words = words} {keeps = keeps} is here =
    subst (λ (names : Names). IsLeft whole words (is_among names left ∷ keeps)) (sym is) here

pub second_left : {lefts others : Names} (left : List ℕ) {whole : Option ℕ} {words : List Token} {first : Bool} {keeps : List Bool} → others ≡ lefts
    → IsLeft whole words (first ∷ is_among lefts left ∷ keeps) → IsLeft whole words (first ∷ is_among others left ∷ keeps)
second_left left {whole = whole} {words = words} {first = first} {keeps = keeps} is here =
    subst (λ (names : Names). IsLeft whole words (first ∷ is_among names left ∷ keeps)) (sym is) here
