use Rattle.std.proofs.Common.{◌≡◌, drop}
use Rattle.dcv_syntax.specs.declared.formulas.FormulaOperand.{FormulaOperand}
use Rattle.dcv_syntax.specs.Views.{plain_formula_kind}
use Rattle.dcv_scope.specs.Names.{occurrences_in_formula, first_fault}
use Rattle.dcv_scope.specs.Sights.{in_sight_of, first_of}
use Rattle.dcv_scope.proofs.naming.Sight.+names_of_formula.Given as goal

-- what is left has the first fault of the whole
abbrev pub invariant-operands-loop-operand : goal.invariant-operands-loop-operand
invariant-operands-loop-operand l =
    let fault = λ (o : FormulaOperand). first_fault (occurrences_in_formula (in_sight_of l.self) (plain_formula_kind o.formula.kind)) in
    first_of fault (drop l.operand-index l.operands) ≡ first_of fault l.operands
