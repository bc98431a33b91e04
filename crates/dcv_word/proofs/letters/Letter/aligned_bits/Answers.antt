use Rattle.dcv_word.proofs.Bits.{aligned_of}
use Rattle.dcv_word.proofs.letters.Letter.aligned_bits.Goals as goal

pub returns : goal.returns
returns c =
    rw c.from.ensures (aligned_of _ _ _ c.self.view_is c.self.invariant.0 c.self.invariant.1)
