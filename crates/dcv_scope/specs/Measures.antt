-- Measures of a goal, taken on the text: how many nodes its core has, where a list is one node, how deep they are nested, and
-- how deep quantifiers are. A macro's measures are a function of its arguments', so a parameter that is not used counts
-- nothing. The numbers have no bound.
--     Measure          size, depth, and depth of quantifiers
--     measure_of_file  the measure of the goal
--     slots_of_file    the number of slots of the goal
use Rattle.std.specs.Prelude.{ℕ, ◌+◌, max, List, [], ◌∷◌, ◌++◌, Option, Some, None, map, length}
use Rattle.std.specs.List.{zip}
use Rattle.dcv_syntax.specs.declared.names.Name.{Name}
use Rattle.dcv_syntax.specs.declared.formulas.Unary.{Unary}
use Rattle.dcv_syntax.specs.declared.formulas.Unary.TheVariants.{Not, Star, Somewhere, Everywhere}
use Rattle.dcv_syntax.specs.declared.formulas.Quantifier.{Quantifier}
use Rattle.dcv_syntax.specs.declared.formulas.Quantifier.TheVariants.{Exists, ForAll}
use Rattle.dcv_syntax.specs.Plain.{PlainPropKind, PropConstant, PropCall, PropNot, PropJoined, PropImplies, PropShifted, PlainArguments, no_arguments, argument}
use Rattle.dcv_syntax.specs.Plain.{PlainPropOperands, no_prop_operands, prop_operand, PlainFormulaKind, FormulaConstant, FormulaPt, FormulaExt, FormulaBracketed}
use Rattle.dcv_syntax.specs.Plain.{FormulaSlen, FormulaCounted, FormulaCall, FormulaApplied, FormulaJoined, FormulaImplies, FormulaChop, FormulaQuantified}
use Rattle.dcv_syntax.specs.Plain.{PlainFormulaOperands, no_formula_operands, formula_operand, arguments_of, PlainMacroBody, FormulaBody, PropBody, PlainMacro, PlainFile}
use Rattle.dcv_logic.specs.Environment.{found}
use Rattle.dcv_scope.specs.CoreOf.{expanded_file}
use Rattle.dcv_tracks.specs.Shifting.{shifts_in}

pub record Measure : Type 0 where
  pub size : ℕ
  pub depth : ℕ
  pub quantifiers : ℕ

-- one node
abbrev pub leaf : Measure
leaf = record { size = 1; depth = 1; quantifiers = 0 }

-- what stands below so many nodes more, so much deeper
abbrev pub under : ℕ → ℕ → Measure → Measure
under nodes deeper m = record m { size = nodes + m.size; depth = deeper + m.depth }

-- what stands below one quantifier more
abbrev pub quantified : Measure → Measure
quantified m = record m { quantifiers = 1 + m.quantifiers }

-- side by side
abbrev pub nothing : Measure
nothing = record { size = 0; depth = 0; quantifiers = 0 }

abbrev pub beside : Measure → Measure → Measure
beside m n = record { size = m.size + n.size; depth = max m.depth n.depth; quantifiers = max m.quantifiers n.quantifiers }

-- what is in sight, the newest first
pub record Measured : Type 0 where
  -- variables, parameters and quantified names
  pub names : List (List ℕ × Measure)
  -- macros, of their arguments
  pub macros : List (List ℕ × (List Measure → Measure))

abbrev pub measure_of_macro : Option (List Measure → Measure) → List Measure → Measure
measure_of_macro None arguments = leaf
measure_of_macro (Some m) arguments = m arguments

abbrev pub measure_of_name : Option Measure → Option (List Measure → Measure) → List Measure → Measure
measure_of_name (Some m) macro arguments = m
measure_of_name None macro arguments = measure_of_macro macro arguments

-- ---- propositions

abbrev mutual
  pub measure_of_prop : Measured → PlainPropKind → Measure
  -- true, false
  measure_of_prop sight (PropConstant truth) = leaf
  -- p, m(P, Q, ..)
  measure_of_prop sight (PropCall name arguments) =
      measure_of_name (found sight.names name.text) (found sight.macros name.text) (measures_of_arguments sight arguments)
  -- !P
  measure_of_prop sight (PropNot p span) = under 1 1 (measure_of_prop sight p)
  -- P && Q && .., P || Q || .., P <=> Q <=> ..
  measure_of_prop sight (PropJoined connective operands) = under 1 1 (measure_of_prop_operands sight operands)
  -- P => Q, which is !P || Q
  measure_of_prop sight (PropImplies p p_span q q_span) = under 1 1 (beside (under 1 1 (measure_of_prop sight p)) (measure_of_prop sight q))
  -- -P, +P
  measure_of_prop sight (PropShifted direction form p span) = under 1 1 (measure_of_prop sight p)

  pub measures_of_arguments : Measured → PlainArguments → List Measure
  measures_of_arguments sight no_arguments = []
  measures_of_arguments sight (argument p span arguments) = measure_of_prop sight p ∷ measures_of_arguments sight arguments

  pub measure_of_prop_operands : Measured → PlainPropOperands → Measure
  measure_of_prop_operands sight no_prop_operands = nothing
  measure_of_prop_operands sight (prop_operand p span outer operands) =
      beside (measure_of_prop sight p) (measure_of_prop_operands sight operands)

-- ---- formulas

-- how many nodes an operator is, and how much deeper its formula stands
abbrev pub unary_nodes : Unary → ℕ
-- !D, D*
unary_nodes Not = 1
unary_nodes Star = 1
-- <>D, which is true ^ D ^ true
unary_nodes Somewhere = 3
-- []D, which is !(true ^ !D ^ true)
unary_nodes Everywhere = 5

abbrev pub unary_depth : Unary → ℕ
unary_depth Not = 1
unary_depth Star = 1
unary_depth Somewhere = 1
unary_depth Everywhere = 3

-- how many nodes a quantifier is, one below the other
abbrev pub quantifier_nodes : Quantifier → ℕ
-- ex p. D
quantifier_nodes Exists = 1
-- all p. D, which is !(ex p. !D)
quantifier_nodes ForAll = 3

abbrev pub name_in_sight : Measured → List ℕ → Measured
name_in_sight sight name = record sight { names = (name, leaf) ∷ sight.names }

abbrev mutual
  pub measure_of_formula : Measured → PlainFormulaKind → Measure
  -- true, false
  measure_of_formula sight (FormulaConstant truth) = leaf
  -- pt, ext: a node over `true`
  measure_of_formula sight FormulaPt = under 1 1 leaf
  measure_of_formula sight FormulaExt = under 1 1 leaf
  -- <P>, [P], [[P]], {{P}}
  measure_of_formula sight (FormulaBracketed bracket p) = under 1 1 (measure_of_prop sight p.kind)
  -- slen R n, scount P R n, sdur P R n
  measure_of_formula sight (FormulaSlen relation n) = leaf
  measure_of_formula sight (FormulaCounted counting p relation n) = under 1 1 (measure_of_prop sight p.kind)
  -- f(P, Q, ..)
  measure_of_formula sight (FormulaCall name arguments) =
      measure_of_macro (found sight.macros name.text) (measures_of_arguments sight (arguments_of arguments))
  -- !D, D*, <>D, []D
  measure_of_formula sight (FormulaApplied unary d span) = under (unary_nodes unary) (unary_depth unary) (measure_of_formula sight d)
  -- D && E && .., D || E || .., D <=> E <=> ..
  measure_of_formula sight (FormulaJoined connective operands) = under 1 1 (measure_of_operands sight operands)
  -- C => D, which is !C || D
  measure_of_formula sight (FormulaImplies c c_span d d_span) = under 1 1 (beside (under 1 1 (measure_of_formula sight c)) (measure_of_formula sight d))
  -- D ^ E ^ ..
  measure_of_formula sight (FormulaChop operands) = under 1 1 (measure_of_operands sight operands)
  -- ex p. D, all p. D
  measure_of_formula sight (FormulaQuantified quantifier name d span) =
      quantified (under (quantifier_nodes quantifier) (quantifier_nodes quantifier) (measure_of_formula (name_in_sight sight name.text) d))

  pub measure_of_operands : Measured → PlainFormulaOperands → Measure
  measure_of_operands sight no_formula_operands = nothing
  measure_of_operands sight (formula_operand d span outer operands) =
      beside (measure_of_formula sight d) (measure_of_operands sight operands)

-- ---- files

abbrev pub measure_of_body : Measured → PlainMacroBody → Measure
measure_of_body sight (FormulaBody d) = measure_of_formula sight d.kind
measure_of_body sight (PropBody p) = measure_of_prop sight p.kind

abbrev pub macro_measure : Measured → PlainMacro → List Measure → Measure
macro_measure sight m arguments =
    measure_of_body (record sight { names = zip (map (λ (p : Name). p.text) m.parameters) arguments ++ sight.names }) m.body

abbrev pub with_measures : Measured → List PlainMacro → Measured
with_measures sight [] = sight
with_measures sight (m ∷ macros) =
    with_measures (record sight { macros = (m.name.text, macro_measure sight m) ∷ sight.macros }) macros

abbrev pub measure_of_file : PlainFile → Measure
measure_of_file file =
    let declared = map (λ (name : Name). (name.text, leaf)) file.variables in
    measure_of_formula (with_measures (record { names = declared; macros = [] }) file.macros) file.goal.formula.kind

-- the declared variables, a slot for each shift, and one for each quantifier that stands inside another
abbrev pub slots_of_file : PlainFile → ℕ
slots_of_file file = length file.variables + length (shifts_in (expanded_file file)) + (measure_of_file file).quantifiers
