use Rattle.std.proofs.Common.{◌∙◌, ap}
use Rattle.std.proofs.lemmas.List.{take_all}
use Rattle.std.specs.List.{fold}
use Rattle.dcv_sets.specs.Bits.{with_state}
use Rattle.dcv_sets.proofs.bits.add_bits.Goals as goal

pub returns : goal.returns
returns c = c.loop-state.invariant ∙ ap (fold with_state c.args.words.now) (take_all c.loop-state.state-index c.args.states.now c.loop-state-test.false)
