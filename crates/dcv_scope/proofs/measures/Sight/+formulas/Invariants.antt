use Rattle.std.proofs.Common.{◌≡◌, drop}
use Rattle.dcv_syntax.specs.declared.formulas.FormulaOperand.{FormulaOperand}
use Rattle.dcv_syntax.specs.Views.{plain_formula_kind}
use Rattle.dcv_scope.specs.Measures.{nothing}
use Rattle.dcv_scope.specs.Linear.{capped_macro}
use Rattle.dcv_scope.specs.Walk.{constant, linear_of_formula, linear_in_sight, all_in_turn}
use Rattle.dcv_scope.proofs.measures.Sight.+formulas.Given as goal

-- what is made and what is left measure the whole
abbrev pub invariant-operands-loop-operand : goal.invariant-operands-loop-operand
invariant-operands-loop-operand l =
    let each = λ (o : FormulaOperand). linear_of_formula (linear_in_sight l.self) (plain_formula_kind o.formula.kind) in
    (l.all.value ≡ capped_macro l.all.value)
    × (capped_macro (all_in_turn each l.all.value (drop l.operand-index l.operands)) ≡ capped_macro (all_in_turn each (constant nothing) l.operands))
