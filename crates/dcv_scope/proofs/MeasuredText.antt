-- Linear measures of a text, at arguments, are the measures of the text.
use Rattle.std.proofs.Common.{◌≡◌, ℕ, Bool, true, false, cond, List, ◌∷◌, Option, Some, refl, sym, ap, ◌∙◌}
use Rattle.std.specs.Prelude.{bytes_eq}
use Rattle.dcv_syntax.specs.Plain.{PlainPropKind, PropConstant, PropCall, PropNot, PropJoined, PropImplies, PropShifted, PlainArguments, no_arguments, argument}
use Rattle.dcv_syntax.specs.Plain.{PlainPropOperands, no_prop_operands, prop_operand, PlainFormulaKind, FormulaConstant, FormulaPt, FormulaExt, FormulaBracketed}
use Rattle.dcv_syntax.specs.Plain.{FormulaSlen, FormulaCounted, FormulaCall, FormulaApplied, FormulaJoined, FormulaImplies, FormulaChop, FormulaQuantified}
use Rattle.dcv_syntax.specs.Plain.{PlainFormulaOperands, no_formula_operands, formula_operand, arguments_of, PlainMacroBody, FormulaBody, PropBody}
use Rattle.dcv_logic.specs.Environment.{found}
use Rattle.dcv_scope.specs.declared.measures.MacroMeasure.{MacroMeasure}
use Rattle.dcv_scope.specs.Measures.{Measure, leaf, nothing, beside, Measured, measure_of_macro, measure_of_name, measure_of_prop}
use Rattle.dcv_scope.specs.Measures.{measures_of_arguments, measure_of_prop_operands, name_in_sight, measure_of_formula, measure_of_operands}
use Rattle.dcv_scope.specs.Measures.{unary_nodes, unary_depth, quantifier_nodes, measure_of_body}
use Rattle.dcv_scope.specs.Linear.{measure_at}
use Rattle.dcv_scope.specs.Walk.{LinearSight, constant, linear_beside, linear_under, linear_of_macro, linear_of_name, linear_of_prop}
use Rattle.dcv_scope.specs.Walk.{linear_of_arguments, linear_of_prop_operands, name_too, linear_of_formula, linear_of_operands, linear_of_body}
use Rattle.dcv_scope.proofs.Linearity.{beside-assoc, beside-nothing, nothing-beside, at-constant, under_at, quantified_at, at-beside, values}

-- what is in sight, at these arguments
pub record Agree (outer : List Measure) (sight : LinearSight) (measured : Measured) : Type 0 where
  pub names : (name : List ℕ) (arguments : List MacroMeasure) → measure_at (linear_of_name (found sight.names name) (found sight.macros name) arguments) outer
      ≡ measure_of_name (found measured.names name) (found measured.macros name) (values outer arguments)
  pub macros : (name : List ℕ) (arguments : List MacroMeasure) → measure_at (linear_of_macro (found sight.macros name) arguments) outer
      ≡ measure_of_macro (found measured.macros name) (values outer arguments)

-- an operand more
in_turn : (before one : MacroMeasure) (outer : List Measure) (x rest : Measure) → measure_at one outer ≡ x
    → beside (measure_at (linear_beside before one) outer) rest ≡ beside (measure_at before outer) (beside x rest)
in_turn before one outer x rest e =
    ap (λ m. beside m rest) (at-beside before one outer ∙ ap (beside (measure_at before outer)) e)
    ∙ sym (beside-assoc (measure_at before outer) x rest)

from_nothing : (outer : List Measure) (m : Measure) → beside (measure_at (constant nothing) outer) m ≡ m
from_nothing outer m = ap (λ x. beside x m) (at-constant nothing outer) ∙ nothing-beside m

module _ (outer : List Measure) (sight : LinearSight) (measured : Measured) (agree : Agree outer sight measured) where
  mutual
    pub prop_agrees : (kind : PlainPropKind) → measure_at (linear_of_prop sight kind) outer ≡ measure_of_prop measured kind
    prop_agrees (PropConstant truth) = at-constant leaf outer
    prop_agrees (PropCall name arguments) =
        agree.names name.text (linear_of_arguments sight arguments)
        ∙ ap (measure_of_name (found measured.names name.text) (found measured.macros name.text)) (arguments_agree arguments)
    prop_agrees (PropNot p span) = under_at 1 1 (linear_of_prop sight p) outer (measure_of_prop measured p) (prop_agrees p)
    prop_agrees (PropJoined connective operands) =
        under_at 1 1 _ outer _ (prop_operands_agree operands (constant nothing) ∙ from_nothing outer (measure_of_prop_operands measured operands))
    prop_agrees (PropImplies p p_span q q_span) =
        let refuted = under_at 1 1 (linear_of_prop sight p) outer (measure_of_prop measured p) (prop_agrees p) in
        under_at 1 1 _ outer _ (at-beside (linear_under 1 1 0 (linear_of_prop sight p)) (linear_of_prop sight q) outer ∙ (λ i. beside (refuted i) (prop_agrees q i)))
    prop_agrees (PropShifted direction form p span) = under_at 1 1 (linear_of_prop sight p) outer (measure_of_prop measured p) (prop_agrees p)

    pub arguments_agree : (arguments : PlainArguments) → values outer (linear_of_arguments sight arguments) ≡ measures_of_arguments measured arguments
    arguments_agree no_arguments = refl
    arguments_agree (argument p span arguments) = λ i. prop_agrees p i ∷ arguments_agree arguments i

    prop_operands_agree : (operands : PlainPropOperands) (before : MacroMeasure)
        → measure_at (linear_of_prop_operands sight before operands) outer ≡ beside (measure_at before outer) (measure_of_prop_operands measured operands)
    prop_operands_agree no_prop_operands before = beside-nothing (measure_at before outer)
    prop_operands_agree (prop_operand p span own operands) before =
        prop_operands_agree operands (linear_beside before (linear_of_prop sight p))
        ∙ in_turn before (linear_of_prop sight p) outer (measure_of_prop measured p) (measure_of_prop_operands measured operands) (prop_agrees p)

-- ---- formulas

name_agrees : (outer : List Measure) (sight : LinearSight) (measured : Measured) (name : List ℕ) → Agree outer sight measured → Agree outer (name_too sight name) (name_in_sight measured name)
name_agrees outer sight measured name agree = record {
  names = λ other arguments. new_or_old (bytes_eq name other) (found sight.names other) (found measured.names other) (found sight.macros other) (found measured.macros other) arguments (agree.names other arguments);
  macros = agree.macros;
}
  where
    new_or_old : (here : Bool) (old : Option MacroMeasure) (was : Option Measure) (m : Option MacroMeasure) (f : Option (List Measure → Measure)) (arguments : List MacroMeasure)
        → measure_at (linear_of_name old m arguments) outer ≡ measure_of_name was f (values outer arguments)
        → measure_at (linear_of_name (cond here (Some (constant leaf)) old) m arguments) outer ≡ measure_of_name (cond here (Some leaf) was) f (values outer arguments)
    new_or_old true old was m f arguments e = at-constant leaf outer
    new_or_old false old was m f arguments e = e

module _ (outer : List Measure) where
  mutual
    pub formula_agrees : (kind : PlainFormulaKind) (sight : LinearSight) (measured : Measured) → Agree outer sight measured
        → measure_at (linear_of_formula sight kind) outer ≡ measure_of_formula measured kind
    formula_agrees (FormulaConstant truth) sight measured agree = at-constant leaf outer
    formula_agrees FormulaPt sight measured agree = under_at 1 1 (constant leaf) outer leaf (at-constant leaf outer)
    formula_agrees FormulaExt sight measured agree = under_at 1 1 (constant leaf) outer leaf (at-constant leaf outer)
    formula_agrees (FormulaBracketed bracket p) sight measured agree = under_at 1 1 _ outer _ (prop_agrees outer sight measured agree p.kind)
    formula_agrees (FormulaSlen relation n) sight measured agree = at-constant leaf outer
    formula_agrees (FormulaCounted counting p relation n) sight measured agree = under_at 1 1 _ outer _ (prop_agrees outer sight measured agree p.kind)
    formula_agrees (FormulaCall name arguments) sight measured agree =
        agree.macros name.text (linear_of_arguments sight (arguments_of arguments))
        ∙ ap (measure_of_macro (found measured.macros name.text)) (arguments_agree outer sight measured agree (arguments_of arguments))
    formula_agrees (FormulaApplied unary d span) sight measured agree = under_at (unary_nodes unary) (unary_depth unary) _ outer _ (formula_agrees d sight measured agree)
    formula_agrees (FormulaJoined connective operands) sight measured agree =
        under_at 1 1 _ outer _ (operands_agree operands (constant nothing) sight measured agree ∙ from_nothing outer (measure_of_operands measured operands))
    formula_agrees (FormulaImplies c c_span d d_span) sight measured agree =
        let refuted = under_at 1 1 (linear_of_formula sight c) outer (measure_of_formula measured c) (formula_agrees c sight measured agree) in
        let conclusion = formula_agrees d sight measured agree in
        under_at 1 1 _ outer _ (at-beside (linear_under 1 1 0 (linear_of_formula sight c)) (linear_of_formula sight d) outer ∙ (λ i. beside (refuted i) (conclusion i)))
    formula_agrees (FormulaChop operands) sight measured agree =
        under_at 1 1 _ outer _ (operands_agree operands (constant nothing) sight measured agree ∙ from_nothing outer (measure_of_operands measured operands))
    formula_agrees (FormulaQuantified quantifier name d span) sight measured agree =
        quantified_at (quantifier_nodes quantifier) (quantifier_nodes quantifier) _ outer _
        (formula_agrees d (name_too sight name.text) (name_in_sight measured name.text) (name_agrees outer sight measured name.text agree))

    operands_agree : (operands : PlainFormulaOperands) (before : MacroMeasure) (sight : LinearSight) (measured : Measured) → Agree outer sight measured
        → measure_at (linear_of_operands sight before operands) outer ≡ beside (measure_at before outer) (measure_of_operands measured operands)
    operands_agree no_formula_operands before sight measured agree = beside-nothing (measure_at before outer)
    operands_agree (formula_operand d span own operands) before sight measured agree =
        operands_agree operands (linear_beside before (linear_of_formula sight d)) sight measured agree
        ∙ in_turn before (linear_of_formula sight d) outer (measure_of_formula measured d) (measure_of_operands measured operands) (formula_agrees d sight measured agree)

pub body_agrees : (outer : List Measure) (body : PlainMacroBody) (sight : LinearSight) (measured : Measured) → Agree outer sight measured
    → measure_at (linear_of_body sight body) outer ≡ measure_of_body measured body
body_agrees outer (FormulaBody d) sight measured agree = formula_agrees outer d.kind sight measured agree
body_agrees outer (PropBody p) sight measured agree = prop_agrees outer sight measured agree p.kind
