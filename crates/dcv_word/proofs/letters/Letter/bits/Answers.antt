use Rattle.std.proofs.Common.{◌^◌, ◌<◌, subst}
use Rattle.dcv_word.proofs.Bits.{width_of, number_of}
use Rattle.dcv_word.proofs.letters.Letter.bits.Goals as goal

pub returns-clause-bits : goal.returns-clause-bits
returns-clause-bits c = number_of _ _ _ c.self.view_is c.self.invariant.1

pub returns-clause-bound : goal.returns-clause-bound
returns-clause-bound c =
    subst (λ width. c.self.inside.bits < 2 ^ width) (width_of _ _ _ c.self.view_is) c.self.invariant.1
