use Rattle.std.proofs.Common.{◌≡◌, ℕ, ◌<◌, ◌+◌, ◌∷◌, length, Vec, Global, sym, ap, subst, ◌∙◌, arith}
use Rattle.std.proofs.lemmas.List.{length-map}
use Rattle.dcv_dfa.specs.Raw.{next_in}
use Rattle.dcv_certificate.specs.Separation.{TellAlike, accepts_word, word_at, has, part_at, AreFinished}
use Rattle.dcv_certificate.specs.Partition.{raw_in, listed_in, parts_in, GoesOn}
use Rattle.dcv_certificate.specs.Marks.{AreDone, marked}
use Rattle.dcv_certificate.proofs.Listing.{length-suffix_words}
use Rattle.dcv_certificate.proofs.Separating.{on_ok_two, told_by_part, finished_more}
use Rattle.dcv_certificate.proofs.partition.Partition.go_on_from.Goals as goal

pub marks-requires-clause-place : goal.marks-requires-clause-place
marks-requires-clause-place c =
    omega (arith, c.requires.place, length-suffix_words c.args.self.now.suffixes.items, c.requires.separates.separation.are_parts.each, length-map c.args.self.now.parts.items (λ (part : Vec ℕ Global). part.items))

pub walk-requires-clause-told : goal.walk-requires-clause-told
walk-requires-clause-told c = λ first second letter t width agree.
    let self = c.args.self.now in
    let raw = raw_in self in
    let told = told_by_part raw c.requires.vertices self.suffixes.items self.blocks.items (parts_in self) c.args.place c.requires.separates.separation c.requires.finished c.requires.place first second letter t width in
    let at : TellAlike (accepts_word raw (letter ∷ word_at (listed_in self) c.in_ok-from.from)) (λ state. has (part_at (parts_in self) c.args.place) (next_in raw state letter)) first second =
    subst (λ place. TellAlike (accepts_word raw (letter ∷ word_at (listed_in self) place)) (λ state. has (part_at (parts_in self) c.args.place) (next_in raw state letter)) first second) (sym c.in_ok-from.ensures.number) told in
    let marks = c.in_ok-marks.marks.items in
    let one : marked c.marks.new.scratch c.deref.result.now letter first ≡ has (part_at (parts_in self) c.args.place) (next_in raw first letter) =
    ap (λ marks. marked c.marks.new.scratch marks letter first) c.deref.ensures.value ∙ c.in_ok-marks.ensures.marked first letter t.first_is width in
    let other : marked c.marks.new.scratch c.deref.result.now letter second ≡ has (part_at (parts_in self) c.args.place) (next_in raw second letter) =
    ap (λ marks. marked c.marks.new.scratch marks letter second) c.deref.ensures.value ∙ c.in_ok-marks.ensures.marked second letter t.second_is width in
    ((λ e. one ∙ at.0 e ∙ sym other), (λ e. at.1 (sym one ∙ e ∙ other)))

pub returns-clause-finished : goal.returns-clause-finished
returns-clause-finished c =
    let self = c.args.self.now in
    let raw = raw_in self in
    let new = c.walk.new.self in
    let there : c.args.place < length (listed_in self) = omega (arith, c.requires.place, length-suffix_words self.suffixes.items) in
    on_ok_two c.walk.result (GoesOn raw self new) (AreDone raw new.blocks.items (word_at (listed_in self) c.in_ok-from.from) 0 c.new.result)
    (AreFinished raw (listed_in new) new.blocks.items (c.args.place + 1))
    (λ goes done. subst (AreFinished raw (listed_in new) new.blocks.items) (omega arith) (finished_more raw (listed_in self) (listed_in new) self.blocks.items new.blocks.items c.args.place there goes c.requires.finished
    (λ first second letter t width. subst (λ place. accepts_word raw (letter ∷ word_at (listed_in self) place) first ≡ accepts_word raw (letter ∷ word_at (listed_in self) place) second) c.in_ok-from.ensures.number
    (done first second letter t width (λ slot h. absurd (omega arith))))))
    c.walk.ensures.goes_on c.walk.ensures.done
