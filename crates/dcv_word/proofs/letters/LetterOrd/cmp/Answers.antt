use Rattle.std.proofs.Common.{arith}
use Rattle.dcv_word.proofs.Bits.{width_of}
use Rattle.dcv_word.proofs.Orders.{letter_order-aligned}
use Rattle.dcv_word.proofs.letters.LetterOrd.cmp.Goals as goal

pub returns : goal.returns
returns c =
    let a = c.args.self.now in
    let b = c.args.other.now in
    let widths = width_of _ _ a c.self.view_is in
    let others = width_of _ _ b c.other.view_is in
    let order = letter_order-aligned 32 a b (omega arith) (omega arith) in
    cc
