-- The plain tree of a node that holds a vector or a box has the plain trees of what these hold.
use Rattle.std.proofs.Common.{◌≡◌, map, Vec, Global, refl, ap, ◌∙◌}
use mathlib.Core.Former.{Count}
use Rattle.dcv_syntax.specs.declared.names.Name.{Name}
use Rattle.dcv_syntax.specs.declared.propositions.Prop.{Prop}
use Rattle.dcv_syntax.specs.declared.propositions.PropOperand.{PropOperand}
use Rattle.dcv_syntax.specs.declared.propositions.Connective.{Connective}
use Rattle.dcv_syntax.specs.declared.propositions.PropKind as props
use Rattle.dcv_syntax.specs.declared.propositions.PropKind.{PropKind, Call', Joined', items-the_row-Prop, items_hidden-the_row-Prop-0, items-the_row-PropOperand, items_hidden-the_row-PropOperand-1}
use Rattle.dcv_syntax.specs.declared.propositions.PropKind.TheBlock.{Row_of-Prop, end_of-Prop, more_of-Prop, Row_of-PropOperand, end_of-PropOperand, more_of-PropOperand}
use Rattle.dcv_syntax.specs.declared.formulas.FormulaOperand.{FormulaOperand}
use Rattle.dcv_syntax.specs.declared.formulas.FormulaKind as formulas
use Rattle.dcv_syntax.specs.declared.formulas.FormulaKind.{FormulaKind, items-the_row-FormulaOperand, items_hidden-the_row-FormulaOperand-0}
use Rattle.dcv_syntax.specs.declared.formulas.FormulaKind.TheBlock.{Row_of-FormulaOperand, end_of-FormulaOperand, more_of-FormulaOperand}
use Rattle.dcv_syntax.specs.Plain.{PropCall, PropJoined, argument, prop_operand, arguments_of, prop_operands_of, FormulaJoined, FormulaChop, formula_operand, formula_operands_of}
use Rattle.dcv_syntax.specs.Views.{plain_prop_kind, plain_arguments, plain_prop_operands, plain_prop, plain_prop_operand, plain_formula_kind, plain_formula_operands, plain_formula_operand}

arguments_are : (n : _) (row : Row_of-Prop n) → plain_arguments row ≡ arguments_of (map plain_prop (items-the_row-Prop n row))
arguments_are n end_of-Prop = refl
arguments_are n (more_of-Prop kind span row) = ap (argument (plain_prop_kind kind) span) (arguments_are _ row)

prop_operands_are : (n : _) (row : Row_of-PropOperand n) → plain_prop_operands row ≡ prop_operands_of (map plain_prop_operand (items-the_row-PropOperand n row))
prop_operands_are n end_of-PropOperand = refl
prop_operands_are n (more_of-PropOperand kind span outer row) = ap (prop_operand (plain_prop_kind kind) span outer) (prop_operands_are _ row)

formula_operands_are : (n : _) (row : Row_of-FormulaOperand n) → plain_formula_operands row ≡ formula_operands_of (map plain_formula_operand (items-the_row-FormulaOperand n row))
formula_operands_are n end_of-FormulaOperand = refl
formula_operands_are n (more_of-FormulaOperand kind span outer row) = ap (formula_operand (plain_formula_kind kind) span outer) (formula_operands_are _ row)

abbrev argument_row : PropKind → (n : Count) × Row_of-Prop n
argument_row (Call' name shape row) = (_, row)
argument_row _ = (_, end_of-Prop)

abbrev prop_row : PropKind → (n : Count) × Row_of-PropOperand n
prop_row (Joined' connective shape row) = (_, row)
prop_row _ = (_, end_of-PropOperand)

abbrev formula_row : FormulaKind → (n : Count) × Row_of-FormulaOperand n
formula_row (formulas.Chop' shape row) = (_, row)
formula_row _ = (_, end_of-FormulaOperand)

pub plain_call : (name : Name) (arguments : Vec Prop Global) → plain_prop_kind (props.Call name arguments) ≡ PropCall name (arguments_of (map plain_prop arguments.items))
plain_call name arguments =
    let row = argument_row (props.Call name arguments) in
    ap (PropCall name) (arguments_are row.0 row.1 ∙ ap (λ ps. arguments_of (map plain_prop ps)) (items_hidden-the_row-Prop-0 arguments))

pub plain_prop_joined : (connective : Connective) (operands : Vec PropOperand Global)
    → plain_prop_kind (props.Joined connective operands) ≡ PropJoined connective (prop_operands_of (map plain_prop_operand operands.items))
plain_prop_joined connective operands =
    let row = prop_row (props.Joined connective operands) in
    ap (PropJoined connective) (prop_operands_are row.0 row.1 ∙ ap (λ ps. prop_operands_of (map plain_prop_operand ps)) (items_hidden-the_row-PropOperand-1 operands))

module _ (operands : Vec FormulaOperand Global) where
  formula_row_is : (let row = formula_row (formulas.Chop operands) in plain_formula_operands row.1) ≡ formula_operands_of (map plain_formula_operand operands.items)
  formula_row_is =
      let row = formula_row (formulas.Chop operands) in
      formula_operands_are row.0 row.1 ∙ ap (λ ps. formula_operands_of (map plain_formula_operand ps)) (items_hidden-the_row-FormulaOperand-0 operands)

  pub plain_joined : (connective : Connective) → plain_formula_kind (formulas.Joined connective operands) ≡ FormulaJoined connective (formula_operands_of (map plain_formula_operand operands.items))
  plain_joined connective = ap (FormulaJoined connective) formula_row_is

  pub plain_chop : plain_formula_kind (formulas.Chop operands) ≡ FormulaChop (formula_operands_of (map plain_formula_operand operands.items))
  plain_chop = ap FormulaChop formula_row_is
