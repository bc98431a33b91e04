-- The text of a unit spells it.
use Rattle.std.proofs.Common.{◌≡◌, ℕ, ◌+◌, ◌<◌, List, [], ◌∷◌, length, map, refl, sym, ap, ◌∙◌, arith, codes, decimal}
use Rattle.std.specs.List.{AllByRecursion}
use Rattle.dcv_grammar.specs.declared.grammar.Symbol.TheVariants.{Class, Rule}
use Rattle.dcv_lexer.specs.Cuts.{Token}
use Rattle.dcv_observer.specs.Classes.{name as plain_name}
use Rattle.dcv_observer.specs.Layouts.{Layout, Newline, ◌<>◌, Each}
use Rattle.dcv_observer.proofs.Spelt.{SpeltAs, at, tokens_in, after, laid_stands, none, by_token, by_rule, then, before, in_turn}
use Rattle.dcv_observer.proofs.Words.{value_of_decimal}
use Rattle.dcv_c.specs.Classes.{lexicon, open_parenthesis, close_parenthesis, open_brace, close_brace, semicolon, word_int, word_return}
use Rattle.dcv_c.specs.Tree.{Assignment, CUnit}
use Rattle.dcv_c.specs.Placed.{assignment_of, statement_of, returned_of, bytes_of as token_bytes, unit_of, PlacedUnit, PlacedAssignment, PlacedStatement}
use Rattle.dcv_c.specs.Placed.{PlacedReturned}
use Rattle.dcv_c.specs.Language as rules
use Rattle.dcv_c.specs.Language.{language}
use Rattle.dcv_c.specs.Actions.{scheme, AToken, Tokens, Assignments, AReset, AReturned, AStep, AUnit, Spells}
use Rattle.dcv_c.specs.Form.{IsName, IsAssignment, IsSpellable}
use Rattle.dcv_c.specs.Layout.{declaration, static_line, local_line, local_lines, between_parameters, parameters_layout, head, assignment_line, reset_lines}
use Rattle.dcv_c.specs.Layout.{statement_line, returned_layout, end_lines, layout_of, text_of}
use Rattle.dcv_c.proofs.Derived.{Spelt, name_class, number_class, statements_spelt, returned_spelt}
use Rattle.dcv_c.proofs.LaidOut.{orderly, step_of, unit_laid}

-- names, by a rule
abbrev NamesSpelt : ℕ → ℕ → List (List ℕ) → Layout → Type 0
NamesSpelt rule start names layout = SpeltAs scheme rule Tokens token_bytes start layout names

-- ---- statics

static_at : ℕ → List ℕ → Token
static_at start name = at (start + 6 + 1 + 3 + 1) name

static_spelt : (start : ℕ) (name : List ℕ) → IsName name → Spelt (Rule rules.static ∷ []) (tokens_in start (static_line name)) (AToken (static_at start name) ∷ [])
unfolding language lexicon static_at
static_spelt start name is =
    by_rule rules.static (0, omega arith, refl) (by_token _ refl (by_token _ refl (by_token (static_at start name) (name_class name is) (by_token _ refl none))))

more_statics_spelt : (names : List (List ℕ)) (start : ℕ) → AllByRecursion IsName names → NamesSpelt rules.more_statics start names (Each static_line names)
unfolding language static_at
more_statics_spelt [] start is = record { placed = []; is = refl; spelt = by_rule rules.more_statics (0, omega arith, refl) none }
more_statics_spelt (name ∷ names) start is =
    let more = more_statics_spelt names (after start (static_line name)) is.1 in
    record {
      placed = static_at start name ∷ more.placed;
      is = λ i. name ∷ more.is i;
      spelt =
          by_rule rules.more_statics (1, omega arith, refl) (in_turn (static_line name) (Each static_line names) start (static_spelt start name is.0) more.spelt);
    }

-- ---- reset

assignments_spelt : (assignments : List Assignment) (start : ℕ) → AllByRecursion IsAssignment assignments
    → SpeltAs scheme rules.assignments Assignments (map assignment_of) start (Each assignment_line assignments) assignments
unfolding language lexicon
assignments_spelt [] start is = record { placed = []; is = refl; spelt = by_rule rules.assignments (0, omega arith, refl) none }
assignments_spelt (assignment ∷ assignments) start is =
    let name = at (start + 1 + 1) assignment.name in
    let last = start + 1 + 1 + length assignment.name + 1 + 1 + 1 in
    let number = at last (decimal assignment.number) in
    let more = assignments_spelt assignments (last + length (decimal assignment.number) + 1 + 1) is.1 in
    let same = value_of_decimal assignment.number (omega (arith, is.0.number)) in
    record {
      placed = record { name = name; number = number } ∷ more.placed;
      is = λ i. record { name = assignment.name; number = same i } ∷ more.is i;
      spelt = by_rule rules.assignments (1, omega arith, refl) (then
          (by_rule rules.assignment (0, omega arith, refl) (by_token name (name_class assignment.name is.0.name) (by_token (at (start + 1 + 1 + length assignment.name + 1) (codes "=")) refl
          (by_token number (number_class assignment.number is.0.number) (by_token (at (last + length (decimal assignment.number)) (codes ";")) refl none))))) more.spelt);
    }

record ResetSpelt (start : ℕ) (of : CUnit) : Type 0 where
  name : Token
  placed : List PlacedAssignment
  end : Token
  name_is : name.bytes ≡ of.reset
  assignments_are : map assignment_of placed ≡ of.assignments
  spelt : Spelt (Rule rules.reset ∷ []) (tokens_in start (reset_lines of.reset of.assignments)) (AReset name placed end ∷ [])

reset_spelt : (start : ℕ) (of : CUnit) → IsSpellable of → ResetSpelt start of
unfolding language lexicon
reset_spelt start of is =
    let void = at (start + 1) (codes "void") in
    let name = at (start + 1 + 4 + 1) of.reset in
    let behind = start + 1 + 4 + 1 + length of.reset in
    let from = behind + 1 + 4 + 1 + 1 + 1 + 1 in
    let a = assignments_spelt of.assignments from is.assignments in
    let end = at (after from (Each assignment_line of.assignments)) (codes "}") in
    record {
      name = name;
      placed = a.placed;
      end = end;
      name_is = refl;
      assignments_are = a.is;
      spelt =
          by_rule rules.reset (0, omega arith, refl) (by_token void refl (by_token name (name_class of.reset is.reset)
          (by_token (at behind (codes "(")) refl (by_token (at (behind + 1) (codes "void")) refl (by_token (at (behind + 1 + 4) (codes ")")) refl
          (by_token (at (behind + 1 + 4 + 1 + 1) (codes "{")) refl (before (Each assignment_line of.assignments) _ from a.spelt (by_token end refl none))))))));
    }

-- ---- parameters

parameter_spelt : (start : ℕ) (name : List ℕ) → IsName name
    → Spelt (Rule rules.parameter ∷ []) (at start (codes "int") ∷ at (start + 3 + 1) name ∷ []) (AToken (at (start + 3 + 1) name) ∷ [])
unfolding language lexicon
parameter_spelt start name is = by_rule rules.parameter (0, omega arith, refl) (by_token _ refl (by_token (at (start + 3 + 1) name) (name_class name is) none))

more_parameters_spelt : (names : List (List ℕ)) (start : ℕ) → AllByRecursion IsName names
    → NamesSpelt rules.more_parameters start names (Each (λ name. between_parameters <> declaration name) names)
unfolding language lexicon
more_parameters_spelt [] start is = record { placed = []; is = refl; spelt = by_rule rules.more_parameters (0, omega arith, refl) none }
more_parameters_spelt (name ∷ names) start is =
    let from = start + 1 + 1 in
    let more = more_parameters_spelt names (from + 3 + 1 + length name) is.1 in
    record {
      placed = at (from + 3 + 1) name ∷ more.placed;
      is = λ i. name ∷ more.is i;
      spelt = by_rule rules.more_parameters (1, omega arith, refl) (by_token (at start (codes ",")) refl (then (parameter_spelt from name is.0) more.spelt));
    }

parameters_spelt : (names : List (List ℕ)) (start : ℕ) → AllByRecursion IsName names → NamesSpelt rules.parameters start names (parameters_layout names)
unfolding language lexicon
parameters_spelt [] start is = record { placed = []; is = refl; spelt = by_rule rules.parameters (1, omega arith, refl) (by_token (at start (codes "void")) refl none) }
parameters_spelt (name ∷ names) start is =
    let more = more_parameters_spelt names (start + 3 + 1 + length name) is.1 in
    record {
      placed = at (start + 3 + 1) name ∷ more.placed;
      is = λ i. name ∷ more.is i;
      spelt = by_rule rules.parameters (0, omega arith, refl) (then (parameter_spelt start name is.0) more.spelt);
    }

-- ---- locals

local_spelt : (start : ℕ) (name : List ℕ) → IsName name
    → Spelt (Rule rules.local ∷ []) (tokens_in start (local_line name)) (AToken (at (start + 1 + 1 + 3 + 1) name) ∷ [])
unfolding language lexicon
local_spelt start name is = by_rule rules.local (0, omega arith, refl) (by_token _ refl (by_token (at (start + 1 + 1 + 3 + 1) name) (name_class name is) (by_token _ refl none)))

locals_spelt : (names : List (List ℕ)) (start : ℕ) → AllByRecursion IsName names → NamesSpelt rules.locals start names (Each local_line names)
unfolding language
locals_spelt [] start is = record { placed = []; is = refl; spelt = by_rule rules.locals (0, omega arith, refl) none }
locals_spelt (name ∷ names) start is =
    let here = at (start + 1 + 1 + 3 + 1) name in
    let more = locals_spelt names (after start (local_line name)) is.1 in
    record {
      placed = here ∷ more.placed;
      is = λ i. name ∷ more.is i;
      spelt =
          by_rule rules.locals (1, omega arith, refl) (in_turn (local_line name) (Each local_line names) start (local_spelt start name is.0) more.spelt);
    }

local_lines_spelt : (names : List (List ℕ)) (start : ℕ) → AllByRecursion IsName names → NamesSpelt rules.locals start names (local_lines names)
local_lines_spelt [] start is = let l = locals_spelt [] start is in record { placed = l.placed; is = l.is; spelt = l.spelt }
local_lines_spelt (name ∷ names) start is =
    let l = locals_spelt (name ∷ names) start is in
    record {
      placed = l.placed;
      is = l.is;
      spelt = in_turn (Each local_line (name ∷ names)) Newline start l.spelt none;
    }

-- ---- the step

record HeadSpelt (start : ℕ) (of : CUnit) : Type 0 where
  name : Token
  placed : List Token
  name_is : name.bytes ≡ of.step
  names_are : token_bytes placed ≡ of.parameters
  spelt : Spelt (Class word_int ∷ Class plain_name ∷ Class open_parenthesis ∷ Rule rules.parameters ∷ Class close_parenthesis ∷ Class open_brace ∷ [])
      (tokens_in start (head (codes "int") of.step (parameters_layout of.parameters))) (AToken name ∷ Tokens placed ∷ [])

head_spelt : (start : ℕ) (of : CUnit) → IsSpellable of → HeadSpelt start of
unfolding lexicon
head_spelt start of is =
    let name = at (start + 1 + 3 + 1) of.step in
    let from = start + 1 + 3 + 1 + length of.step + 1 in
    let p = parameters_spelt of.parameters from is.parameters in
    record {
      name = name;
      placed = p.placed;
      name_is = refl;
      names_are = p.is;
      spelt =
          by_token _ refl (by_token name (name_class of.step is.step) (by_token _ refl (before (parameters_layout of.parameters) _ from p.spelt (by_token _ refl (by_token _ refl none)))));
    }

record EndSpelt (start : ℕ) (of : CUnit) : Type 0 where
  placed : PlacedReturned
  end : Token
  returned_is : returned_of placed ≡ of.returned
  spelt : Spelt (Class word_return ∷ Rule rules.returned ∷ Class semicolon ∷ Class close_brace ∷ []) (tokens_in start (end_lines (returned_layout of.returned)))
      (AReturned placed ∷ AToken end ∷ [])

end_spelt : (start : ℕ) (of : CUnit) → IsSpellable of → EndSpelt start of
unfolding lexicon
end_spelt start of is =
    let from = start + 1 + 1 + 6 + 1 in
    let r = returned_spelt from of.returned is.returned in
    let behind = after from (returned_layout of.returned) in
    let end = at (behind + 1 + 1) (codes "}") in
    record {
      placed = r.placed;
      end = end;
      returned_is = r.is;
      spelt =
          by_token _ refl (before (returned_layout of.returned) _ from r.spelt (by_token _ refl (by_token end refl none)));
    }

record StepSpelt (start : ℕ) (of : CUnit) : Type 0 where
  name : Token
  parameters : List Token
  locals : List Token
  statements : List PlacedStatement
  returned : PlacedReturned
  name_is : name.bytes ≡ of.step
  parameters_are : token_bytes parameters ≡ of.parameters
  locals_are : token_bytes locals ≡ of.locals
  statements_are : map statement_of statements ≡ of.statements
  returned_is : returned_of returned ≡ of.returned
  spelt : Spelt (Rule rules.step ∷ []) (tokens_in start (step_of of)) (AStep name parameters locals statements returned ∷ [])

step_spelt : (start : ℕ) (of : CUnit) → IsSpellable of → StepSpelt start of
unfolding language
step_spelt start of is =
    let statements = Each statement_line of.statements in
    let last = end_lines (returned_layout of.returned) in
    let first = head (codes "int") of.step (parameters_layout of.parameters) in
    let locals = local_lines of.locals in
    let second = after start first in
    let third = after second locals in
    let fourth = after third statements in
    let head = head_spelt start of is in
    let l = local_lines_spelt of.locals second is.locals in
    let s = statements_spelt of.statements third is.statements in
    let end = end_spelt fourth of is in
    record {
      name = head.name;
      parameters = head.placed;
      locals = l.placed;
      statements = s.placed;
      returned = end.placed;
      name_is = head.name_is;
      parameters_are = head.names_are;
      locals_are = l.is;
      statements_are = s.is;
      returned_is = end.returned_is;
      spelt =
          by_rule rules.step (0, omega arith, refl) (in_turn first (locals <> statements <> last) start head.spelt
          (in_turn locals (statements <> last) second l.spelt (in_turn statements last third s.spelt end.spelt)));
    }

-- ---- units

module _ (of : CUnit) (is : IsSpellable of) where
  abbrev layout_from : List (List ℕ) → Layout
  layout_from statics = Each static_line statics <> reset_lines of.reset of.assignments <> step_of of

  unit_by_statics : (names : List (List ℕ)) → of.statics ≡ names → AllByRecursion IsName names → 0 < length names
      → SpeltAs scheme rules.unit AUnit unit_of 0 (layout_from names) of
  unfolding language static_at
  unit_by_statics [] same are some = absurd (omega (arith, some))
  unit_by_statics (name ∷ names) same are some =
      let first = after 0 (static_line name) in
      let second = after first (Each static_line names) in
      let reset = reset_lines of.reset of.assignments in
      let third = after second reset in
      let more = more_statics_spelt names first are.1 in
      let r = reset_spelt second of is in
      let s = step_spelt third of is in
      record {
        placed =
            record {
              statics = static_at 0 name ∷ more.placed;
              reset = r.name;
              assignments = r.placed;
              reset_end = r.end;
              step = s.name;
              parameters = s.parameters;
              locals = s.locals;
              statements = s.statements;
              returned = s.returned;
            };
        is = λ i.
            record {
              statics = (ap (λ ns. name ∷ ns) more.is ∙ sym same) i;
              reset = r.name_is i;
              assignments = r.assignments_are i;
              step = s.name_is i;
              parameters = s.parameters_are i;
              locals = s.locals_are i;
              statements = s.statements_are i;
              returned = s.returned_is i;
            };
        spelt =
            by_rule rules.unit (0, omega arith, refl) (in_turn (static_line name) (layout_from names) 0 (static_spelt 0 name are.0)
            (in_turn (Each static_line names) (reset <> step_of of) first more.spelt (in_turn reset (step_of of) second r.spelt s.spelt)));
      }

  -- the text spells the unit, with each word where it stands
  pub text_spells : (placed : PlacedUnit) × Spells (text_of of) placed × (unit_of placed ≡ of)
  unfolding layout_of text_of language
  text_spells =
      let u = unit_by_statics of.statics refl is.statics is.some_static in
      (u.placed, laid_stands orderly (layout_of of) 10 (unit_laid of 10 is) (AUnit u.placed) u.spelt, u.is)
