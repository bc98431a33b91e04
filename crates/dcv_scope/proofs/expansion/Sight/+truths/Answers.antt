use Rattle.std.proofs.Common.{rules, ◌≡◌, List, map, arith, sym, ap, ◌∙◌}
use Rattle.dcv_syntax.specs.declared.propositions.Prop.{Prop, size-Prop}
use Rattle.dcv_syntax.specs.declared.propositions.Connective.TheVariants.{Or}
use Rattle.dcv_syntax.specs.Views.{plain_prop_kind, plain_prop, plain_body}
use Rattle.dcv_logic.specs.Environment.{found}
use Rattle.dcv_scope.proofs.WorkLeft.{prop_depth, all_bodies, left_after_call}
use Rattle.dcv_core.specs.Core.{PlainTruth, TruthJoined}
use Rattle.dcv_scope.specs.CoreOf.{bind_arguments, truth_of, truth_of_call}
use Rattle.dcv_scope.specs.Names.{texts}
use Rattle.dcv_core.specs.TruthViews.{plain_truth, truths_of}
use Rattle.dcv_scope.specs.Expansions.{sight_of, top_sight_of, truths_in, used_from}
use Rattle.dcv_scope.proofs.Calls.{prop_called}
use Rattle.dcv_core.proofs.MadeSteps.{then_ok}
use Rattle.dcv_core.proofs.TruthRows.{truth_joined}
use Rattle.dcv_scope.proofs.TextRows.{operand_truth, truth-Call, truth-Joined}
use Rattle.dcv_scope.proofs.expansion.Sight.+truths.Goals as goal

pub named-prop-requires : goal.named-prop-requires
named-prop-requires t c =
    let called = c.in-Some-called.called in
    let body : prop_depth called.defined.now.body ≡ size-Prop c.in-Prop.body = ap prop_depth c.in-Prop.is in
    let left = left_after_call prop_depth c.args.self.now.macros.now c.args.name.now.text called.defined.now called.macros.now c.in-Some-called.ensures.newest in
    let macros : all_bodies prop_depth c.in_ok-inside-in-Prop.inside.macros.now ≡ all_bodies prop_depth called.macros.now = ap (all_bodies prop_depth) c.in_ok-inside-in-Prop.ensures.macros in
    (omega (arith, left, body, macros), c.in_ok-inside-in-Prop.ensures.is_sight)

pub named-returns-in_ok-inside-in-Prop : goal.named-returns-in_ok-inside-in-Prop
named-returns-in_ok-inside-in-Prop t c =
    let self = c.args.self.now in
    let name = c.args.name.now.text in
    let called = c.in-Some-called.called in
    let is_called = c.in-Some-called.ensures in
    let top = top_sight_of called.variables.now called.macros.now in
    let parameters = texts called.defined.now.parameters.items in
    let arguments = truths_in (sight_of self) c.args.arguments.now in
    let given : map plain_truth c.deref.result.now ≡ used_from called.measure.now 0 arguments = ap (map plain_truth) c.deref.ensures.value ∙ c.in_ok-arguments-in-Prop.ensures in
    let inner : sight_of c.in_ok-inside-in-Prop.inside ≡ record (bind_arguments top parameters (used_from called.measure.now 0 arguments)) { slots = self.slots } =
    c.in_ok-inside-in-Prop.ensures.sight ∙ ap (λ truths. record (bind_arguments top parameters truths) { slots = self.slots }) given in
    let body = ap plain_body c.in-Prop.is in
    let same = prop_called top parameters called.measure.now (plain_body called.defined.now.body) is_called.skips arguments self.slots (sight_of c.in_ok-inside-in-Prop.inside) inner
    (found (sight_of self).macros name) is_called.expansion (plain_prop c.in-Prop.body) body (found (sight_of self).truths name) (sym c.in_default.ensures) in
    then_ok c.prop.result c.prop.ensures (λ truth e. e ∙ same)

pub prop-returns : goal.prop-returns
prop-returns t c =
    let sight = sight_of c.args.self.now in
    then_ok c.form.result c.form.ensures (λ truth e. e ∙ c.behind.ensures.alike sight.truths (λ name none. none))

pub form-returns-in-Call : goal.form-returns-in-Call
form-returns-in-Call t c =
    let sight = sight_of c.args.self.now in
    let name = c.in-Call.name in
    let of_list : List Prop → PlainTruth = λ arguments. truth_of_call (found sight.truths name.text) (found sight.macros name.text) (truths_in sight arguments) in
    let same : of_list c.deref.result.now ≡ truth_of sight (plain_prop_kind c.args.prop.now.kind) =
    ap of_list c.deref.ensures.value ∙ sym (truth-Call sight name c.in-Call.arguments) ∙ sym (ap (λ kind. truth_of sight (plain_prop_kind kind)) c.in-Call.is) in
    then_ok c.named.result c.named.ensures (λ truth e. e ∙ same)

pub form-returns-in_ok-prop_operands-in-Joined : goal.form-returns-in_ok-prop_operands-in-Joined
form-returns-in_ok-prop_operands-in-Joined t c =
    let sight = sight_of c.args.self.now in
    let connective = c.in-Joined.connective in
    truth_joined connective c.in_ok-prop_operands-in-Joined.field-0
    ∙ ap (λ truths. TruthJoined connective (truths_of truths)) (c.in_ok-prop_operands-in-Joined.ensures ∙ ap (map (operand_truth sight)) c.deref-in-Joined.ensures.value)
    ∙ sym (truth-Joined sight connective c.in-Joined.operands)
    ∙ sym (ap (λ kind. truth_of sight (plain_prop_kind kind)) c.in-Joined.is)

pub implication-returns : goal.implication-returns
implication-returns t c = truth_joined Or c.push-2.new.self ∙ search (rules)
