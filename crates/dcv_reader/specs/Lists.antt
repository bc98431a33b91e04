-- The lists of formulas, as the code names them.
use Rattle.std.specs.Prelude.{List}
use Rattle.dcv_syntax.specs.Plain.{FormulaJoined, FormulaChop, PlainFormulaKind, PlainFormulaOperands}
use Rattle.dcv_reader.specs.declared.formulas.FormulaList.{FormulaList}
use Rattle.dcv_reader.specs.declared.formulas.FormulaList.TheVariants.{Joined, Chop}
use Rattle.dcv_reader.specs.Actions.{Part, joined_formulas_part, formula_chop_part}

-- the form of a list
abbrev pub formula_list_kind : FormulaList → PlainFormulaOperands → PlainFormulaKind
formula_list_kind (Joined connective) operands = FormulaJoined connective operands
formula_list_kind Chop operands = FormulaChop operands

-- what its rule stands for
abbrev pub formula_list_part : FormulaList → List Part → Part
formula_list_part (Joined connective) parts = joined_formulas_part connective parts
formula_list_part Chop parts = formula_chop_part parts
