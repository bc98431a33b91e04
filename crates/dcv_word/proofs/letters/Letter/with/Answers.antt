use Rattle.std.proofs.Common.{set, sym, ap, ◌^◌, ◌∙◌, arith}
use Rattle.std.proofs.lemmas.List.{length-set}
use Rattle.dcv_word.specs.Letter.{letter_of}
use Rattle.dcv_word.proofs.Bits.{width_of, bits_of-lt, letter_of-bits_of}
use Rattle.dcv_word.proofs.letters.Letter.with.Goals as goal

pub new-requires-clause-bits : goal.new-requires-clause-bits
new-requires-clause-bits c =
    let whole = set c.args.self c.args.slot c.args.value in
    let width = ap (λ n. 2 ^ n) (width_of _ _ _ c.self.view_is ∙ sym (length-set c.args.self c.args.slot c.args.value)) in
    omega (arith, bits_of-lt whole, width, c.bits_with.ensures)

pub returns : goal.returns
returns c =
    let whole = set c.args.self c.args.slot c.args.value in
    let width = width_of _ _ _ c.self.view_is ∙ sym (length-set c.args.self c.args.slot c.args.value) in
    c.new.ensures.letter ∙ (λ i. letter_of (width i) (c.bits_with.ensures i)) ∙ letter_of-bits_of whole
