use Rattle.std.proofs.Common.{◌+◌, ◌∙◌, set, take, refl, ap, sym, arith}
use Rattle.std.proofs.lemmas.List.{length-set, take_all}
use Rattle.dcv_automaton_text.specs.Meaning.{state_at}
use Rattle.dcv_automaton_read.specs.Walk.{leaves_of}
use Rattle.dcv_certify.specs.Built.{some_node}
use Rattle.dcv_certify.proofs.Stepping.{leaves_more}
use Rattle.dcv_certify.proofs.steps.leaves.Goals as goal

pub loop-place-init : goal.loop-place-init
unfolding leaves_of
loop-place-init c = (omega (arith, c.in_ok-leaves.ensures.len), refl)

pub loop-place-preserved : goal.loop-place-preserved
loop-place-preserved c =
    let leaves = c.loop-place.leaves.items in
    let place = c.loop-place.place in
    let is = c.state_of.ensures ∙ (λ i. state_at (c.deref.ensures.value i) (c.child_of.ensures i)) in (
      length-set leaves place c.state_of.result ∙ c.loop-place.invariant.0,
      ap (λ state. take (place + 1) (set leaves place state)) is
          ∙ leaves_more _ c.args.letter c.args.nodes.now leaves place some_node c.requires.ordered c.loop-place-test.true c.loop-place.invariant.0 c.loop-place.invariant.1,
    )

pub returns : goal.returns
returns c =
    let place = c.loop-place.place in
    let past = c.loop-place-test.false in record {
      count = c.loop-place.invariant.0;
      leaves = sym (take_all place c.loop-place.leaves.items (omega (arith, past, c.loop-place.invariant.0))) ∙ c.loop-place.invariant.1
          ∙ ap (leaves_of c.args.letter) (take_all place c.args.nodes.now past);
    }
