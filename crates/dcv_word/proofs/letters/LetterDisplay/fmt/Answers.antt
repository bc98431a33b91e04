use Rattle.std.proofs.Common.{false, get_or, sym, ap, ◌∙◌, arith, rules}
use Rattle.std.proofs.Output.{has_written_append, has_written_of_eq}
use Rattle.std.proofs.lemmas.List.{map_more}
use Rattle.dcv_word.specs.TraceLine.{digit_of}
use Rattle.std.specs.Prelude.{encode_utf8}
use Rattle.dcv_word.proofs.Bits.{width_of}
use Rattle.dcv_word.proofs.Readings.{encode_utf8-digit_of, digits-all}
use Rattle.dcv_word.proofs.letters.LetterDisplay.fmt.Goals as goal

pub digit-requires : goal.digit-requires
digit-requires g c = omega (arith, width_of _ _ _ c.self.view_is)

pub loop-slot-preserved : goal.loop-slot-preserved
loop-slot-preserved g c =
    let letter = c.args.self.now in
    let slot = c.loop-slot.slot in
    let next = map_more digit_of letter slot false (omega (arith, width_of _ _ _ c.self.view_is)) in
    let spelled = ap encode_utf8 (c.from.ensures ∙ c.digit.ensures) ∙ encode_utf8-digit_of (get_or letter slot false) in
    λ plain. has_written_of_eq _ _ _ _ _ (sym next) (has_written_append _ _ _ _ _ _ (c.loop-slot.invariant plain) (has_written_of_eq _ _ _ _ _ spelled (search rules)))

pub returns-clause-writes : goal.returns-clause-writes
returns-clause-writes g c =
    let width = width_of _ _ _ c.self.view_is in
    let all = digits-all c.args.self.now c.loop-slot.slot (omega arith) (omega arith) in
    λ plain ok. has_written_of_eq _ _ _ _ _ all (c.loop-slot.invariant plain)
