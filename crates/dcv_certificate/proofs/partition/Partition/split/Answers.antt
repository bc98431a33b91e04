use Rattle.std.proofs.Common.{◌≡◌, ℕ, ◌==◌, ◌<◌, All, List, [], ◌∷◌, ◌++◌, Vec, Global, length, map, sym, ap, subst, ◌∙◌}
use Rattle.std.proofs.lemmas.Bool.{eqb-true, eq-eqb, true≢false}
use Rattle.std.proofs.lemmas.List.{map-append}
use Rattle.std.proofs.lemmas.List.Elements.{All-push}
use Rattle.dcv_language.specs.declared.certificate.Suffix.{Suffix}
use Rattle.dcv_language.specs.declared.certificate.Suffix.TheVariants.{Then}
use Rattle.dcv_certificate.specs.Proof.{suffix_words}
use Rattle.dcv_certificate.specs.Separation.{word_at, accepts_word, TellAlike, AreTogether, has, IsSplit, IsSeparation, Advances}
use Rattle.dcv_certificate.specs.Partition.{raw_in, parts_in}
use Rattle.dcv_refinement.specs.Members.{list_of, HaveTheirOwn}
use Rattle.dcv_certificate.specs.Tallies.{AreSizes}
use Rattle.dcv_certificate.specs.Marks.{marked, AreDone, SplitsSome}
use Rattle.dcv_certificate.proofs.Separating.{separation_more, separation_advances}
use Rattle.dcv_certificate.proofs.Walking.{told_at, told_by_split_off, done_at, nothing_listed, done_by_part, done_by_split}
use Rattle.dcv_certificate.proofs.partition.Partition.split.Goals as goal
use Rattle.dcv_certificate.proofs.partition.Partition.split.Goals.{In_ok-part, In_ok-push-2}

told_part : (c : In_ok-part) (first second : ℕ) → AreTogether (raw_in c.args.self.now) c.args.self.now.blocks.items first second
    → TellAlike (accepts_word (raw_in c.args.self.now) (c.args.letter ∷ word_at (suffix_words c.args.self.now.suffixes.items) c.args.from)) (has c.in_ok-part.part.items) first second
told_part c =
    let raw = raw_in c.args.self.now in
    let blocks = c.args.self.now.blocks.items in
    let word = word_at (suffix_words c.args.self.now.suffixes.items) c.args.from in
    let letter = c.args.letter in
    told_by_split_off raw blocks word letter (marked c.args.scratch.now c.args.marks.now letter) c.in_ok-part.part.items
    (told_at raw blocks word c.args.scratch.now c.args.scratch.now.slots letter c.args.marks.now (c.requires.letter ∙ c.requires.slots) c.requires.told) c.in_ok-part.ensures.part

pub renumber-requires-clause-listed : goal.renumber-requires-clause-listed
renumber-requires-clause-listed c =
    subst (λ (blocks : Vec ℕ Global). HaveTheirOwn blocks.items (list_of c.part.new.self.members)) (sym c.part.ensures.kept.blocks) c.in_ok-part.ensures.mended

pub returns-then-is_empty-clause-separates : goal.returns-then-is_empty-clause-separates
returns-then-is_empty-clause-separates c =
    let raw = raw_in c.args.self.now in
    let kept = c.part.ensures.kept in
    let was = c.requires.separates in
    record {
      separation = subst (λ (p : Vec Suffix Global × Vec ℕ Global × Vec (Vec ℕ Global) Global). IsSeparation raw p.0.items p.1.items (map (λ (part : Vec ℕ Global). part.items) p.2.items))
          (λ i. (sym kept.suffixes i, sym kept.blocks i, sym kept.parts i)) was.separation;
      numbers = subst (λ (p : Vec ℕ Global × ℕ). All (λ block. block < p.1) p.0.items) (λ i. (sym kept.blocks i, sym kept.count i)) was.numbers;
      sizes = subst (λ (p : Vec ℕ Global × ℕ × Vec ℕ Global). AreSizes p.0.items p.1 p.2.items) (λ i. (sym kept.blocks i, sym kept.count i, sym kept.sizes i)) was.sizes;
      members = subst (λ (blocks : Vec ℕ Global). HaveTheirOwn blocks.items (list_of c.part.new.self.members)) (sym kept.blocks) c.in_ok-part.ensures.mended;
      states = subst (λ (parts : Vec (Vec ℕ Global) Global). All (All (λ state. state < length raw.rows)) (map (λ (part : Vec ℕ Global). part.items) parts.items)) (sym kept.parts) was.states;
    }

pub returns-then-is_empty-clause-done : goal.returns-then-is_empty-clause-done
returns-then-is_empty-clause-done c =
    let raw = raw_in c.args.self.now in
    let none = nothing_listed c.in_ok-part.part.items (eqb-true (length c.in_ok-part.part.items) 0 (sym (ap (λ n. n == 0) c.in_ok-part.part.ok.0) ∙ sym c.is_empty.ensures ∙ c.if-is_empty.true)) in
    let word = word_at (suffix_words c.args.self.now.suffixes.items) c.args.from in
    subst (λ (blocks : Vec ℕ Global). AreDone raw blocks.items word c.args.scratch.now.slots c.args.letter) (sym c.part.ensures.kept.blocks)
    (done_at raw c.args.self.now.blocks.items word c.args.scratch.now.slots c.args.letter (sym c.requires.letter) (c.requires.letter ∙ c.requires.slots)
    (done_by_part raw c.args.self.now.blocks.items (accepts_word raw (c.args.letter ∷ word_at (suffix_words c.args.self.now.suffixes.items) c.args.from)) c.in_ok-part.part.items none
    (told_part ((goal.at.returns-then-is_empty-clause-done c).In_ok-part))))

module _ (c : In_ok-push-2) where
  old_blocks : c.part.new.self.blocks.items ≡ c.args.self.now.blocks.items
  old_blocks = ap (λ (blocks : Vec ℕ Global). blocks.items) c.part.ensures.kept.blocks

  split_is : IsSplit (length (raw_in c.args.self.now).rows) c.args.self.now.blocks.items c.in_ok-part.part.items c.renumber.new.self.blocks.items
  split_is =
      subst (λ n. IsSplit n c.args.self.now.blocks.items c.in_ok-part.part.items c.renumber.new.self.blocks.items) c.requires.separates.separation.are_blocks.each
      (subst (λ part. IsSplit (length c.args.self.now.blocks.items) c.args.self.now.blocks.items part c.renumber.new.self.blocks.items) c.deref.ensures.value
      (subst (λ blocks. IsSplit (length blocks) blocks c.deref.result.now c.renumber.new.self.blocks.items) old_blocks c.in_ok-renumber.ensures.split))

  some : SplitsSome (raw_in c.args.self.now) c.args.self.now.blocks.items c.in_ok-part.part.items
  some = c.in_ok-part.ensures.part.some (λ e. true≢false (sym (eq-eqb (length c.in_ok-part.part.items) 0 (ap (λ (part : List ℕ). length part) e)) ∙ ap (λ n. n == 0) (sym c.in_ok-part.part.ok.0) ∙ sym c.is_empty.ensures ∙ c.if-is_empty.false))

  suffixes_are : c.push-2.new.self.items ≡ c.args.self.now.suffixes.items ++ Then c.args.letter c.args.from ∷ []
  suffixes_are = c.in_ok-push-2.ensures.items ∙ ap (λ (suffixes : Vec Suffix Global). suffixes.items ++ Then c.args.letter c.args.from ∷ []) (c.in_ok-renumber.ensures.suffixes ∙ c.part.ensures.kept.suffixes)

  parts_are : map (λ (part : Vec ℕ Global). part.items) c.push.new.self.items ≡ parts_in c.args.self.now ++ c.in_ok-part.part.items ∷ []
  parts_are =
      ap (map (λ (part : Vec ℕ Global). part.items)) (c.in_ok-push.ensures.items ∙ ap (λ (parts : Vec (Vec ℕ Global) Global). parts.items ++ c.in_ok-part.part ∷ []) (c.in_ok-renumber.ensures.parts ∙ c.part.ensures.kept.parts))
      ∙ map-append (λ (part : Vec ℕ Global). part.items) c.args.self.now.parts.items (c.in_ok-part.part ∷ [])

pub returns-clause-separates : goal.returns-clause-separates
returns-clause-separates c =
    let self = c.args.self.now in
    let raw = raw_in self in
    let old = (goal.at.returns-clause-separates c).In_ok-part in
    let new = c.renumber.new.self.blocks.items in
    let more = separation_more raw self.suffixes.items c.args.letter c.args.from c.requires.from (c.requires.letter ∙ c.requires.slots) self.blocks.items c.in_ok-part.part.items new (parts_in self)
    c.requires.separates.separation (told_part old) (split_is c) (some c) in
    record {
      separation = subst (λ suffixes. IsSeparation raw suffixes new (map (λ (part : Vec ℕ Global). part.items) c.push.new.self.items)) (sym (suffixes_are c))
          (subst (IsSeparation raw (self.suffixes.items ++ Then c.args.letter c.args.from ∷ []) new) (sym (parts_are c)) more);
      numbers = c.in_ok-renumber.ensures.numbers;
      sizes = c.in_ok-renumber.ensures.sizes;
      members = c.in_ok-renumber.ensures.listed;
      states = subst (All (All (λ state. state < length raw.rows))) (sym (parts_are c))
          (All-push (All (λ state. state < length raw.rows)) (parts_in self) c.in_ok-part.part.items c.requires.separates.states
          (subst (λ n. All (λ state. state < n) c.in_ok-part.part.items) c.requires.separates.separation.are_blocks.each c.in_ok-part.ensures.members));
    }

pub returns-clause-goes_on : goal.returns-clause-goes_on
returns-clause-goes_on c =
    let self = c.args.self.now in
    let raw = raw_in self in
    let old = (goal.at.returns-clause-goes_on c).In_ok-part in
    subst (λ suffixes. Advances raw (suffix_words self.suffixes.items) self.blocks.items (suffix_words suffixes) c.renumber.new.self.blocks.items) (sym (suffixes_are c))
    (separation_advances raw self.suffixes.items c.args.letter c.args.from c.requires.from (c.requires.letter ∙ c.requires.slots) self.blocks.items c.in_ok-part.part.items c.renumber.new.self.blocks.items (parts_in self)
    c.requires.separates.separation (told_part old) (split_is c) (some c))

pub returns-clause-done : goal.returns-clause-done
returns-clause-done c =
    let self = c.args.self.now in
    let raw = raw_in self in
    let old = (goal.at.returns-clause-done c).In_ok-part in
    let word = word_at (suffix_words self.suffixes.items) c.args.from in
    done_at raw c.renumber.new.self.blocks.items word c.args.scratch.now.slots c.args.letter (sym c.requires.letter) (c.requires.letter ∙ c.requires.slots)
    (done_by_split raw self.blocks.items c.renumber.new.self.blocks.items (accepts_word raw (c.args.letter ∷ word)) c.in_ok-part.part.items (told_part old) (split_is c))
