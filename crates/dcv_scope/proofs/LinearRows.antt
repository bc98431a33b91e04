-- Linear measures along the code's lists are those along the plain tree's operands.
use Rattle.std.proofs.Common.{◌≡◌, ℕ, zero, suc, ◌+◌, ◌<◌, Option, Some, None, length, drop, arith, List, [], ◌∷◌, Vec, Global, map, refl, sym, ap}
use Rattle.std.proofs.Common.{◌∙◌}
use Rattle.std.specs.Prelude.{slice_index_or}
use Rattle.std.specs.Option.{option_map, unwrap_or}
use Rattle.dcv_syntax.specs.declared.names.Name.{Name}
use Rattle.dcv_syntax.specs.declared.propositions.Prop.{Prop}
use Rattle.dcv_syntax.specs.declared.propositions.PropOperand.{PropOperand}
use Rattle.dcv_syntax.specs.declared.propositions.Connective.{Connective}
use Rattle.dcv_syntax.specs.declared.propositions.PropKind.{Call, Joined}
use Rattle.dcv_syntax.specs.declared.formulas.FormulaOperand.{FormulaOperand}
use Rattle.dcv_syntax.specs.declared.formulas.FormulaKind.{Call as CallFormula, Joined as JoinedFormula, Chop}
use Rattle.dcv_syntax.specs.Plain.{arguments_of, prop_operands_of, formula_operands_of}
use Rattle.dcv_syntax.specs.Views.{plain_prop_kind, plain_prop, plain_prop_operand, plain_formula_kind, plain_formula_operand}
use Rattle.dcv_syntax.proofs.PlainRows.{plain_call, plain_prop_joined, plain_joined, plain_chop}
use Rattle.dcv_logic.specs.Environment.{found}
use Rattle.dcv_scope.specs.declared.measures.Share.{Share}
use Rattle.dcv_scope.specs.declared.measures.MacroMeasure.{MacroMeasure}
use Rattle.dcv_scope.specs.Measures.{nothing}
use Rattle.dcv_scope.specs.Linear.{capped_macro}
use Rattle.dcv_scope.specs.Walk.{LinearSight, constant, linear_beside, linear_under, linear_of_name, linear_of_macro, linear_of_prop}
use Rattle.dcv_scope.specs.Walk.{linear_of_arguments, linear_of_prop_operands, linear_of_formula, linear_of_operands, linear_with, linear_with_all}
use Rattle.dcv_scope.specs.Walk.{linear_at, first_linear, later_linear, all_in_turn}
use Rattle.dcv_scope.proofs.Capped.{under_capped, beside_both, beside_second, in_turn_capped, with_all_first, twice_macro, at_capped}
use Rattle.dcv_scope.proofs.NameRows.{drop-more}

module _ (sight : LinearSight) where
  abbrev pub measured : Prop → MacroMeasure
  measured p = linear_of_prop sight (plain_prop_kind p.kind)

  abbrev pub measured_operand : PropOperand → MacroMeasure
  measured_operand o = linear_of_prop sight (plain_prop_kind o.prop.kind)

  abbrev pub measured_formula : FormulaOperand → MacroMeasure
  measured_formula o = linear_of_formula sight (plain_formula_kind o.formula.kind)

  pub arguments-list : (props : List Prop) → linear_of_arguments sight (arguments_of (map plain_prop props)) ≡ map measured props
  arguments-list [] = refl
  arguments-list (p ∷ props) = ap (λ (rest : List MacroMeasure). measured p ∷ rest) (arguments-list props)

  operands-list : (operands : List PropOperand) (before : MacroMeasure)
      → linear_of_prop_operands sight before (prop_operands_of (map plain_prop_operand operands)) ≡ all_in_turn measured_operand before operands
  operands-list [] before = refl
  operands-list (o ∷ operands) before = operands-list operands (linear_beside before (measured_operand o))

  formulas-list : (operands : List FormulaOperand) (before : MacroMeasure)
      → linear_of_operands sight before (formula_operands_of (map plain_formula_operand operands)) ≡ all_in_turn measured_formula before operands
  formulas-list [] before = refl
  formulas-list (o ∷ operands) before = formulas-list operands (linear_beside before (measured_formula o))

  pub linear-Call : (name : Name) (arguments : Vec Prop Global) → linear_of_prop sight (plain_prop_kind (Call name arguments))
      ≡ linear_of_name (found sight.names name.text) (found sight.macros name.text) (map measured arguments.items)
  linear-Call name arguments =
      ap (linear_of_prop sight) (plain_call name arguments)
      ∙ ap (linear_of_name (found sight.names name.text) (found sight.macros name.text)) (arguments-list arguments.items)

  pub linear-Joined : (connective : Connective) (operands : Vec PropOperand Global) → capped_macro (linear_of_prop sight (plain_prop_kind (Joined connective operands)))
      ≡ capped_macro (linear_under 1 1 0 (capped_macro (all_in_turn measured_operand (constant nothing) operands.items)))
  linear-Joined connective operands =
      ap (λ kind. capped_macro (linear_of_prop sight kind)) (plain_prop_joined connective operands)
      ∙ ap (λ all. capped_macro (linear_under 1 1 0 all)) (operands-list operands.items (constant nothing))
      ∙ sym (under_capped 1 1 0 (all_in_turn measured_operand (constant nothing) operands.items))

  pub formula-Call : (name : Name) (arguments : Vec Prop Global) → linear_of_formula sight (plain_formula_kind (CallFormula name arguments))
      ≡ linear_of_macro (found sight.macros name.text) (map measured arguments.items)
  formula-Call name arguments = ap (linear_of_macro (found sight.macros name.text)) (arguments-list arguments.items)

  pub formula-Joined : (connective : Connective) (operands : Vec FormulaOperand Global) → capped_macro (linear_of_formula sight (plain_formula_kind (JoinedFormula connective operands)))
      ≡ capped_macro (linear_under 1 1 0 (capped_macro (all_in_turn measured_formula (constant nothing) operands.items)))
  formula-Joined connective operands =
      ap (λ kind. capped_macro (linear_of_formula sight kind)) (plain_joined operands connective)
      ∙ ap (λ all. capped_macro (linear_under 1 1 0 all)) (formulas-list operands.items (constant nothing))
      ∙ sym (under_capped 1 1 0 (all_in_turn measured_formula (constant nothing) operands.items))

  pub formula-Chop : (operands : Vec FormulaOperand Global) → capped_macro (linear_of_formula sight (plain_formula_kind (Chop operands)))
      ≡ capped_macro (linear_under 1 1 0 (capped_macro (all_in_turn measured_formula (constant nothing) operands.items)))
  formula-Chop operands =
      ap (λ kind. capped_macro (linear_of_formula sight kind)) (plain_chop operands)
      ∙ ap (λ all. capped_macro (linear_under 1 1 0 all)) (formulas-list operands.items (constant nothing))
      ∙ sym (under_capped 1 1 0 (all_in_turn measured_formula (constant nothing) operands.items))

pub ruleset rows = (linear-Call, linear-Joined, under_capped, beside_both)

pub ruleset formula_rows = (formula-Call, formula-Joined, formula-Chop, under_capped, beside_both)

-- ---- one after another

some_same : (m n : MacroMeasure) → Some m ≡ Some n → m ≡ n
some_same m n e = ap (λ o. unwrap_or o m) e

pub is_capped : (m n : MacroMeasure) → m ≡ capped_macro n → m ≡ capped_macro m
is_capped m n e = e ∙ sym (twice_macro n) ∙ ap capped_macro (sym e)

-- one operand more, as far as numbers go
pub taken_in_turn : {X : Type 0} (f : X → MacroMeasure) (all : MacroMeasure) (xs : List X) (i : ℕ) (d : X) → i < length xs
    → capped_macro (all_in_turn f (capped_macro (linear_beside all (capped_macro (f (slice_index_or xs i d))))) (drop (i + 1) xs)) ≡ capped_macro (all_in_turn f all (drop i xs))
taken_in_turn f all xs i d lt =
    ap (λ before. capped_macro (all_in_turn f before (drop (i + 1) xs))) (beside_second all (f (slice_index_or xs i d)))
    ∙ in_turn_capped f (linear_beside all (f (slice_index_or xs i d))) (drop (i + 1) xs)
    ∙ ap (λ rest. capped_macro (all_in_turn f all rest)) (sym (drop-more xs i d lt))

later-drop : (arguments : List MacroMeasure) (i : ℕ) → later_linear (drop i arguments) ≡ drop (i + 1) arguments
later-drop [] zero = refl
later-drop [] (suc i) =
    let next : suc (i + 1) ≡ suc i + 1 = omega arith in
    let none : List MacroMeasure = [] in
    ap (λ k. drop k none) next
later-drop (a ∷ arguments) zero = refl
later-drop (a ∷ arguments) (suc i) =
    let next : suc (i + 1) ≡ suc i + 1 = omega arith in
    later-drop arguments i ∙ ap (λ k. drop k (a ∷ arguments)) next

-- one argument more
pub taken_with : (whole : MacroMeasure) (shares : List (Option Share)) (arguments : List MacroMeasure) (i : ℕ) (d : Option Share) → i < length shares
    → capped_macro (linear_with_all (capped_macro (linear_with whole (slice_index_or shares i d) (first_linear (drop i arguments)))) (drop (i + 1) shares) (drop (i + 1) arguments))
    ≡ capped_macro (linear_with_all whole (drop i shares) (drop i arguments))
taken_with whole shares arguments i d lt =
    with_all_first (linear_with whole (slice_index_or shares i d) (first_linear (drop i arguments))) (drop (i + 1) shares) (drop (i + 1) arguments)
    ∙ ap (λ rest. capped_macro (linear_with_all (linear_with whole (slice_index_or shares i d) (first_linear (drop i arguments))) (drop (i + 1) shares) rest)) (sym (later-drop arguments i))
    ∙ ap (λ rest. capped_macro (linear_with_all whole rest (drop i arguments))) (sym (drop-more shares i d lt))

pub first-drop : (f : Prop → MacroMeasure) (props : List Prop) (i : ℕ) (d : Prop) → i < length props → first_linear (drop i (map f props)) ≡ f (slice_index_or props i d)
first-drop f [] i d lt = absurd (omega (arith, lt))
first-drop f (p ∷ props) zero d lt = refl
first-drop f (p ∷ props) (suc i) d lt = first-drop f props i d (omega (arith, lt))

-- a macro that is found, at its arguments
pub called_at : (o : Option MacroMeasure) (called : MacroMeasure) (arguments : List MacroMeasure) → Some called ≡ option_map capped_macro o
    → capped_macro (linear_at called arguments) ≡ capped_macro (linear_of_macro o arguments)
called_at None called arguments e = absurd (cc)
called_at (Some m) called arguments e =
    ap (λ (n : MacroMeasure). capped_macro (linear_at n arguments)) (some_same called (capped_macro m) e) ∙ at_capped m arguments
