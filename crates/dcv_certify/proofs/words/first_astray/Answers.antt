use Rattle.std.proofs.Common.{◌∙◌, sym, ap, arith, length}
use Rattle.dcv_automaton_text.proofs.GoodFiles.{good_file}
use Rattle.dcv_certify.proofs.Landings.{lands_at, one_more}
use Rattle.dcv_certify.proofs.words.first_astray.Goals as goal

pub returns-then-state-place-clause-some : goal.returns-then-state-place-clause-some
returns-then-state-place-clause-some c =
    let here = lands_at c.args.file.now c.in_ok-states.states.items c.deref-state-items.result.now c.loop-place.place c.in_ok-states.ensures c.deref-state-items.ensures.value c.loop-place-test.true in
    record { is_state = here.0; astray = λ same. c.if-state-place.true (sym here.1 ∙ same); before = c.loop-place.invariant }

pub loop-place-preserved : goal.loop-place-preserved
loop-place-preserved c =
    let here = lands_at c.args.file.now c.in_ok-states.states.items c.deref-state-items.result.now c.loop-place.place c.in_ok-states.ensures c.deref-state-items.ensures.value c.loop-place-test.true in
    one_more c.args.file.now c.loop-place.place c.loop-place.invariant (here.1 ∙ c.if-state-place.false)

pub returns-clause-none : goal.returns-clause-none
returns-clause-none c state within =
    c.loop-place.invariant state
    (omega (arith, within, c.loop-place-test.false, ap length c.deref-state-items.ensures.value, c.in_ok-states.ensures.count))

pub overflow_cast-result : goal.overflow_cast-result
overflow_cast-result c =
    let few = (good_file c.args.file.now c.keeps_the_rules.ensures).few in
    omega (arith, few, c.loop-place-test.true, ap length c.deref-state-items.ensures.value, c.in_ok-states.ensures.count)
