use Rattle.std.proofs.Common.{List, map, drop, ap, sym, ◌∙◌, ◌+◌, rules}
use Rattle.dcv_syntax.specs.declared.propositions.Prop.{Prop}
use Rattle.dcv_syntax.specs.declared.propositions.PropOperand.{PropOperand}
use Rattle.dcv_syntax.specs.Views.{plain_prop_kind}
use Rattle.dcv_logic.specs.Environment.{found}
use Rattle.dcv_scope.specs.Measures.{nothing}
use Rattle.dcv_scope.specs.Linear.{measure_with, capped_macro}
use Rattle.dcv_scope.specs.Walk.{constant, linear_beside, linear_under, linear_within, linear_of_name, linear_of_prop, linear_in_sight}
use Rattle.dcv_scope.specs.Walk.{linear_with_all, linear_with, first_linear, all_in_turn}
use Rattle.dcv_scope.proofs.Capped.{beside_second, within_capped, in_turn_capped, with_all_first}
use Rattle.dcv_scope.proofs.LinearRows.{linear-Call, linear-Joined, measured, measured_operand, is_capped, called_at}
use Rattle.dcv_scope.proofs.LinearRows.{taken_in_turn, taken_with, first-drop}
use Rattle.dcv_core.proofs.MadeSteps.{then_ok}
use Rattle.dcv_scope.proofs.measures.Sight.+props.Goals as goal

pub prop-returns-in-Call : goal.prop-returns-in-Call
prop-returns-in-Call t c =
    let sight = linear_in_sight c.args.self.now in
    let name = c.in-Call.name in
    then_ok c.use_of.result c.use_of.ensures
    (λ measure is. is ∙ ap (λ (props : List Prop). capped_macro (linear_of_name (found sight.names name.text) (found sight.macros name.text) (map (measured sight) props))) c.deref.ensures.value
    ∙ ap capped_macro (sym (linear-Call sight name c.in-Call.arguments))
    ∙ sym (ap (λ kind. capped_macro (linear_of_prop sight (plain_prop_kind kind))) c.in-Call.is))

pub prop-returns-in_ok-prop_operands-in-Joined : goal.prop-returns-in_ok-prop_operands-in-Joined
prop-returns-in_ok-prop_operands-in-Joined t c =
    let sight = linear_in_sight c.args.self.now in
    c.below-in-Joined.ensures
    ∙ ap (λ all. capped_macro (linear_under 1 1 0 all)) (c.in_ok-prop_operands-in-Joined.ensures ∙ ap (λ (os : List PropOperand). capped_macro (all_in_turn (measured_operand sight) (constant nothing) os)) c.deref-in-Joined.ensures.value)
    ∙ sym (linear-Joined sight c.in-Joined.field-0 c.in-Joined.operands)
    ∙ sym (ap (λ kind. capped_macro (linear_of_prop sight (plain_prop_kind kind))) c.in-Joined.is)

pub prop_operands-loop-operand-init : goal.prop_operands-loop-operand-init
prop_operands-loop-operand-init t c =
    let each = measured_operand (linear_in_sight c.args.self.now) in
    let is = c.in_ok-all.ensures.ok ∙ c.constant-none.ensures ∙ ap (λ own. capped_macro (constant (measure_with own))) c.nothing.ensures in
    (is_capped _ _ is, ap (λ all. capped_macro (all_in_turn each all c.args.operands.now)) is ∙ in_turn_capped each (constant nothing) c.args.operands.now)

pub prop_operands-loop-operand-preserved : goal.prop_operands-loop-operand-preserved
prop_operands-loop-operand-preserved t c =
    let each = measured_operand (linear_in_sight c.args.self.now) in
    let operands = c.args.operands.now in
    let i = c.loop-operand.operand-index in
    let all = c.loop-operand.all.value in
    let one = c.in_ok-measure.ensures ∙ ap (λ (o : PropOperand). capped_macro (each o)) c.operand-item.is in
    let is = c.both-all.ensures ∙ ap (λ n. capped_macro (linear_beside all n)) one in (
      is_capped _ _ c.both-all.ensures,
      ap (λ m. capped_macro (all_in_turn each m (drop (i + 1) operands))) is
          ∙ taken_in_turn each all operands i c.operand-item.result c.loop-operand-test.true
          ∙ c.loop-operand.invariant.1,
    )

pub expanded-loop-place-init : goal.expanded-loop-place-init
expanded-loop-place-init t c =
    let arguments = map (measured (linear_in_sight c.args.self.now)) c.args.arguments.now in
    let called = c.args.called in (
      is_capped _ _ (c.in_ok-whole.ensures.ok ∙ c.constant-own.ensures),
      ap (λ m. capped_macro (linear_with_all m called.shares arguments)) (c.in_ok-whole.ensures.ok ∙ c.constant-own.ensures)
          ∙ with_all_first (constant (measure_with called.own)) called.shares arguments,
    )

pub expanded-loop-place-preserved : goal.expanded-loop-place-preserved
expanded-loop-place-preserved t c =
    let arguments = map (measured (linear_in_sight c.args.self.now)) c.args.arguments.now in
    let called = c.args.called in
    let i = c.loop-place.place in (
      is_capped _ _ c.in_ok-whole-2.ensures,
      ap (λ m. capped_macro (linear_with_all m (drop (i + 1) called.shares) (drop (i + 1) arguments))) c.in_ok-whole-2.ensures
          ∙ taken_with c.loop-place.whole.value called.shares arguments i _ (search rules)
          ∙ c.loop-place.invariant.1,
    )

pub call-returns-in-Some : goal.call-returns-in-Some
call-returns-in-Some t c =
    let sight = linear_in_sight c.args.self.now in
    then_ok c.expanded.result c.expanded.ensures
    (λ measure is. is ∙ called_at (found sight.macros c.args.name.now.text) c.in-Some.called (map (measured sight) c.args.arguments.now) (sym c.in-Some.is ∙ c.called.ensures))

pub argument-returns-then-place-arguments : goal.argument-returns-then-place-arguments
argument-returns-then-place-arguments t c =
    let each = measured (linear_in_sight c.args.self.now) in
    then_ok c.prop.result c.prop.ensures
    (λ measure is. is ∙ ap (λ (p : Prop). capped_macro (each p)) c.index-arguments-place.is
    ∙ ap capped_macro (sym (first-drop each c.args.arguments.now c.args.place c.index-arguments-place.result c.if-place-arguments.true)))

pub with_argument-returns-in_ok-argument-in-Some : goal.with_argument-returns-in_ok-argument-in-Some
with_argument-returns-in_ok-argument-in-Some t c =
    let whole = c.args.whole.value in
    let share = c.in-Some.share in
    let argument = first_linear (drop c.args.place (map (measured (linear_in_sight c.args.self.now)) c.args.arguments.now)) in
    c.both.ensures
    ∙ ap (λ w. capped_macro (linear_beside whole w)) (c.shared.ensures ∙ ap (λ a. capped_macro (linear_within share a)) c.in_ok-argument-in-Some.ensures ∙ within_capped share argument)
    ∙ beside_second whole (linear_within share argument)
    ∙ sym (ap (λ s. capped_macro (linear_with whole s argument)) c.in-Some.is)
