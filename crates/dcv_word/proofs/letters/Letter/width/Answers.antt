use Rattle.dcv_word.proofs.Bits.{width_of}
use Rattle.dcv_word.proofs.letters.Letter.width.Goals as goal

pub returns-clause-width : goal.returns-clause-width
returns-clause-width c = width_of _ _ _ c.self.view_is
