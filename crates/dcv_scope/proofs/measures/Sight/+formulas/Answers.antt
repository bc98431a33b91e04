use Rattle.std.proofs.Common.{List, map, drop, ap, sym, ◌∙◌, ◌+◌}
use Rattle.dcv_syntax.specs.declared.propositions.Prop.{Prop}
use Rattle.dcv_syntax.specs.declared.formulas.FormulaOperand.{FormulaOperand}
use Rattle.dcv_syntax.specs.Views.{plain_formula_kind}
use Rattle.dcv_logic.specs.Environment.{found}
use Rattle.dcv_scope.specs.Measures.{nothing}
use Rattle.dcv_scope.specs.Linear.{measure_with, capped_macro}
use Rattle.dcv_scope.specs.Walk.{constant, linear_beside, linear_under, linear_of_macro, linear_of_formula, linear_in_sight, all_in_turn}
use Rattle.dcv_scope.proofs.Capped.{in_turn_capped}
use Rattle.dcv_scope.proofs.LinearRows.{formula-Call, formula-Joined, formula-Chop, measured, measured_formula, is_capped}
use Rattle.dcv_scope.proofs.LinearRows.{taken_in_turn}
use Rattle.dcv_core.proofs.MadeSteps.{then_ok}
use Rattle.dcv_scope.proofs.measures.Sight.+formulas.Goals as goal

pub formula-returns-in-Call : goal.formula-returns-in-Call
formula-returns-in-Call t c =
    let sight = linear_in_sight c.args.self.now in
    let name = c.in-Call.name in
    then_ok c.call.result c.call.ensures
    (λ measure is. is
    ∙ ap (λ (props : List Prop). capped_macro (linear_of_macro (found sight.macros name.text) (map (measured sight) props))) c.deref.ensures.value
    ∙ ap capped_macro (sym (formula-Call sight name c.in-Call.arguments))
    ∙ sym (ap (λ kind. capped_macro (linear_of_formula sight (plain_formula_kind kind))) c.in-Call.is))

pub formula-returns-in_ok-operands-in-Joined : goal.formula-returns-in_ok-operands-in-Joined
formula-returns-in_ok-operands-in-Joined t c =
    let sight = linear_in_sight c.args.self.now in
    c.below-in-Joined.ensures
    ∙ ap (λ all. capped_macro (linear_under 1 1 0 all)) (c.in_ok-operands-in-Joined.ensures ∙ ap (λ (os : List FormulaOperand). capped_macro (all_in_turn (measured_formula sight) (constant nothing) os)) c.deref-in-Joined.ensures.value)
    ∙ sym (formula-Joined sight c.in-Joined.field-0 c.in-Joined.operands)
    ∙ sym (ap (λ kind. capped_macro (linear_of_formula sight (plain_formula_kind kind))) c.in-Joined.is)

pub formula-returns-in_ok-operands-in-Chop : goal.formula-returns-in_ok-operands-in-Chop
formula-returns-in_ok-operands-in-Chop t c =
    let sight = linear_in_sight c.args.self.now in
    c.below-in-Chop.ensures
    ∙ ap (λ all. capped_macro (linear_under 1 1 0 all)) (c.in_ok-operands-in-Chop.ensures ∙ ap (λ (os : List FormulaOperand). capped_macro (all_in_turn (measured_formula sight) (constant nothing) os)) c.deref-in-Chop.ensures.value)
    ∙ sym (formula-Chop sight c.in-Chop.operands)
    ∙ sym (ap (λ kind. capped_macro (linear_of_formula sight (plain_formula_kind kind))) c.in-Chop.is)

pub operands-loop-operand-init : goal.operands-loop-operand-init
operands-loop-operand-init t c =
    let each = measured_formula (linear_in_sight c.args.self.now) in
    let is = c.in_ok-all.ensures.ok ∙ c.constant-none.ensures ∙ ap (λ own. capped_macro (constant (measure_with own))) c.nothing.ensures in
    (is_capped _ _ is, ap (λ all. capped_macro (all_in_turn each all c.args.operands.now)) is ∙ in_turn_capped each (constant nothing) c.args.operands.now)

pub operands-loop-operand-preserved : goal.operands-loop-operand-preserved
operands-loop-operand-preserved t c =
    let each = measured_formula (linear_in_sight c.args.self.now) in
    let operands = c.args.operands.now in
    let i = c.loop-operand.operand-index in
    let all = c.loop-operand.all.value in
    let one = c.in_ok-measure.ensures ∙ ap (λ (o : FormulaOperand). capped_macro (each o)) c.operand-item.is in
    let is = c.both-all.ensures ∙ ap (λ n. capped_macro (linear_beside all n)) one in (
      is_capped _ _ c.both-all.ensures,
      ap (λ m. capped_macro (all_in_turn each m (drop (i + 1) operands))) is
          ∙ taken_in_turn each all operands i c.operand-item.result c.loop-operand-test.true
          ∙ c.loop-operand.invariant.1,
    )
