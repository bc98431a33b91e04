use Rattle.dcv_sets.proofs.SetBits.{written_back}
use Rattle.dcv_sets.proofs.bits.bits_from.Goals as goal

pub returns : goal.returns
returns c = written_back c.args.width c.args.states.now (c.in_ok-words.ensures.items_if_clones_equal (λ y e. e)) c.as_mut_slice.ensures.value c.add_bits.ensures
