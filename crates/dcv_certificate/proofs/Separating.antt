-- What one suffix more does to a separation, and what follows once all suffixes were gone on from.
use Rattle.std.proofs.Common.{◌≡◌, ◌≢◌, inl, inr, ℕ, suc, ◌<◌, Bool, List, [], ◌∷◌, ◌++◌, length, Result, Ok, Err, OnOk, refl, ap, sym, subst, ◌∙◌, arith}
use Rattle.std.proofs.lemmas.List.{length-append, get_or_append_left}
use Rattle.std.proofs.Math.Seq.{get_or-append_seam}
use Rattle.dcv_word.specs.Behaviour.{Word}
use Rattle.dcv_arena.specs.declared.nodes.Ref.TheVariants.{Leaf}
use Rattle.dcv_dfa.specs.Raw.{RawValue, next_in}
use Rattle.dcv_language.proofs.Behaviours.{Widths, Widths-head, Widths-tail}
use Rattle.dcv_language.specs.declared.certificate.Suffix.{Suffix}
use Rattle.dcv_language.specs.declared.certificate.Suffix.TheVariants.{Then}
use Rattle.dcv_certificate.specs.Proof.{suffix_words}
use Rattle.dcv_certificate.specs.Separation.{AreVertices, word_at, accepts_word, accepts_at, Agree, TellAlike, has, part_at, AreTogether, IsSplit, GrowsAt, TellsNewStates, AreListed, AreBlocks, AreParts, IsSeparation, AreFinished, IsSeparated, Advances}
use Rattle.dcv_certificate.specs.Marks.{SplitsSome}
use Rattle.dcv_certificate.proofs.Counting.{last_or_before, pairs_fewer}
use Rattle.dcv_certificate.proofs.Listing.{longer, at_before, at_end, length_longer, agree_longer, agree_shorter, suffix_words-push, length-suffix_words, go_on_more}

pub next_below : (raw : RawValue) → AreVertices raw → (state : ℕ) (letter : List Bool) → state < length raw.rows → length letter ≡ raw.arena.slots
    → next_in raw state letter < length raw.rows
next_below raw v state letter below width = v.numbers state (Leaf 0) below letter width

-- ---- one suffix more: a letter before the one at `from`

module _ (raw : RawValue) (listed : List Word) (letter : List Bool) (from : ℕ) (within : from < length listed) (width : length letter ≡ raw.arena.slots) where
  grows_before : (place : ℕ) → place < length listed → GrowsAt raw.arena.slots listed place → GrowsAt raw.arena.slots (longer listed letter from) place
  grows_before place h g = record {
    letter = g.letter;
    from = g.from;
    width = g.width;
    earlier = g.earlier;
    grown = at_before listed letter from place h ∙ g.grown ∙ ap (λ word. g.letter ∷ word) (sym (at_before listed letter from g.from (omega (arith, g.earlier))));
  }

  grows_at_end : (place : ℕ) → place ≡ length listed → GrowsAt raw.arena.slots (longer listed letter from) place
  grows_at_end place e = record {
    letter = letter;
    from = from;
    width = width;
    earlier = omega arith;
    grown = ap (word_at (longer listed letter from)) e ∙ at_end listed letter from ∙ ap (λ word. letter ∷ word) (sym (at_before listed letter from from within));
  }

  tells_before : (place : ℕ) → place < length listed → TellsNewStates raw listed place → TellsNewStates raw (longer listed letter from) place
  tells_before place h t =
      let same = at_before listed letter from place h in
      record {
        first = t.first;
        second = t.second;
        first_is = t.first_is;
        second_is = t.second_is;
        agree = agree_longer listed letter from raw place t.first t.second (omega arith) t.agree;
        differ = λ e. t.differ (sym (ap (λ word. accepts_word raw word t.first) same) ∙ e ∙ ap (λ word. accepts_word raw word t.second) same);
      }

  tells_at_end : (first second place : ℕ) → first < length raw.rows → second < length raw.rows → place ≡ length listed → Agree raw listed (length listed) first second
      → accepts_word raw (letter ∷ word_at listed from) first ≢ accepts_word raw (letter ∷ word_at listed from) second → TellsNewStates raw (longer listed letter from) place
  tells_at_end first second place h l e agree differ =
      let same = ap (word_at (longer listed letter from)) e ∙ at_end listed letter from in
      record {
        first = first;
        second = second;
        first_is = h;
        second_is = l;
        agree = λ n below. agree_longer listed letter from raw (length listed) first second (omega arith) agree n (omega arith);
        differ = λ f. differ (sym (ap (λ word. accepts_word raw word first) same) ∙ f ∙ ap (λ word. accepts_word raw word second) same);
      }

  module _ (blocks part new : List ℕ) (parts : List (List ℕ)) (are : AreListed raw listed) (b : AreBlocks raw listed blocks) (p : AreParts raw listed parts)
      (told : (first second : ℕ) → AreTogether raw blocks first second → TellAlike (accepts_word raw (letter ∷ word_at listed from)) (has part) first second)
      (split : IsSplit (length raw.rows) blocks part new) (some : SplitsSome raw blocks part) where
    listed_more : AreListed raw (longer listed letter from)
    listed_more =
        let word = letter ∷ word_at listed from in
        let differ : accepts_word raw word some.first ≢ accepts_word raw word some.second = λ e. some.differ ((told some.first some.second some.together).0 e) in
        let count = length_longer listed letter from in
        record {
          some = omega (arith, count);
          first = at_before listed letter from 0 are.some ∙ are.first;
          grow = λ place positive below. elim (last_or_before place (length listed) (omega (arith, count))) [
            | inl h ↦ grows_before place h (are.grow place positive h)
            | inr e ↦ grows_at_end place e
          ];
          new = λ place positive below. elim (last_or_before place (length listed) (omega (arith, count))) [
            | inl h ↦ tells_before place h (are.new place positive h)
            | inr e ↦ tells_at_end some.first some.second place some.together.first_is some.together.second_is e (b.together some.first some.second some.together) differ
          ];
        }

    together_before : (first second : ℕ) → AreTogether raw new first second → AreTogether raw blocks first second × (has part first ≡ has part second)
    together_before first second t =
        let both = (split.split first second t.first_is t.second_is).0 t.same in
        (record { first_is = t.first_is; second_is = t.second_is; same = both.0 }, both.1)

    blocks_more : AreBlocks raw (longer listed letter from) new
    blocks_more =
        let count = length_longer listed letter from in
        record {
          each = split.each ∙ b.each;
          together = λ first second t place below.
              let old = together_before first second t in
              elim (last_or_before place (length listed) (omega (arith, count))) [
                | inl h ↦ agree_longer listed letter from raw (length listed) first second (omega arith) (b.together first second old.0) place h
                | inr e ↦
                    let same = ap (word_at (longer listed letter from)) e ∙ at_end listed letter from in
                    ap (λ word. accepts_word raw word first) same ∙ (told first second old.0).1 old.1 ∙ sym (ap (λ word. accepts_word raw word second) same)
              ];
          apart = λ first second h l agree.
              let same = b.apart first second h l (agree_shorter listed letter from raw (length listed) first second (omega arith) (λ place below. agree place (omega (arith, count)))) in
              let end = at_end listed letter from in
              let last = sym (ap (λ word. accepts_word raw word first) end) ∙ agree (length listed) (omega (arith, count)) ∙ ap (λ word. accepts_word raw word second) end in
              (split.split first second h l).1 (same, (told first second (record { first_is = h; second_is = l; same = same })).0 last);
        }

    parts_more : AreParts raw (longer listed letter from) (parts ++ part ∷ [])
    parts_more =
        let count = length_longer listed letter from in
        record {
          each = omega (arith, count, p.each, length-append parts (part ∷ []));
          part = λ place first second below h l agree. elim (last_or_before place (length listed) (omega (arith, count))) [
            | inl before ↦
                let old = p.part place first second before h l (agree_shorter listed letter from raw place first second (omega arith) agree) in
                let part_is = get_or_append_left parts (part ∷ []) [] place (omega (arith, p.each)) in
                subst (λ word. TellAlike (accepts_word raw word) (has (part_at (parts ++ part ∷ []) place)) first second) (sym (at_before listed letter from place before))
                (subst (λ numbers. TellAlike (accepts_at raw listed place) (has numbers) first second) (sym part_is) old)
            | inr e ↦
                let same = b.apart first second h l (agree_shorter listed letter from raw (length listed) first second (omega arith) (λ n g. agree n (omega arith))) in
                let last = told first second (record { first_is = h; second_is = l; same = same }) in
                let word_is = ap (word_at (longer listed letter from)) e ∙ at_end listed letter from in
                let part_is = ap (part_at (parts ++ part ∷ [])) (e ∙ sym p.each) ∙ get_or-append_seam parts part [] [] in
                subst (λ word. TellAlike (accepts_word raw word) (has (part_at (parts ++ part ∷ []) place)) first second) (sym word_is)
                (subst (λ numbers. TellAlike (accepts_word raw (letter ∷ word_at listed from)) (has numbers) first second) (sym part_is) last)
          ];
        }

    advances : Advances raw listed blocks (longer listed letter from) new
    advances = record {
      words = at_before listed letter from;
      more = omega (arith, length_longer listed letter from);
      finer = λ first second t. (together_before first second t).0;
      fewer =
          let fewer = pairs_fewer (length raw.rows) blocks new (λ first second h l e. ((split.split first second h l).0 e).0)
          some.first some.second some.together.first_is some.together.second_is some.together.same
          (λ e. some.differ ((split.split some.first some.second some.together.first_is some.together.second_is).0 e).1) in
          omega (arith, fewer, length_longer listed letter from);
    }

-- the same of suffixes
module _ (raw : RawValue) (suffixes : List Suffix) (letter : List Bool) (from : ℕ) (within : from < length suffixes) (width : length letter ≡ raw.arena.slots)
    (blocks part new : List ℕ) (parts : List (List ℕ)) (s : IsSeparation raw suffixes blocks parts)
    (told : (first second : ℕ) → AreTogether raw blocks first second → TellAlike (accepts_word raw (letter ∷ word_at (suffix_words suffixes) from)) (has part) first second)
    (split : IsSplit (length raw.rows) blocks part new) (some : SplitsSome raw blocks part) where
  there : from < length (suffix_words suffixes)
  there = omega (arith, length-suffix_words suffixes)

  pub separation_more : IsSeparation raw (suffixes ++ Then letter from ∷ []) new (parts ++ part ∷ [])
  separation_more =
      let listed = suffix_words suffixes in
      let is = suffix_words-push suffixes (Then letter from) in
      record {
        earlier = go_on_more suffixes letter from within s.earlier;
        are_listed = subst (λ words. AreListed raw words) (sym is) (listed_more raw listed letter from there width blocks part new parts s.are_listed s.are_blocks s.are_parts told split some);
        are_blocks = subst (λ words. AreBlocks raw words new) (sym is) (blocks_more raw listed letter from there width blocks part new parts s.are_listed s.are_blocks s.are_parts told split some);
        are_parts = subst (λ words. AreParts raw words (parts ++ part ∷ [])) (sym is) (parts_more raw listed letter from there width blocks part new parts s.are_listed s.are_blocks s.are_parts told split some);
      }

  pub separation_advances : Advances raw (suffix_words suffixes) blocks (suffix_words (suffixes ++ Then letter from ∷ [])) new
  separation_advances =
      let listed = suffix_words suffixes in
      subst (λ words. Advances raw listed blocks words new) (sym (suffix_words-push suffixes (Then letter from)))
      (advances raw listed letter from there width blocks part new parts s.are_listed s.are_blocks s.are_parts told split some)

-- ---- steps in turn

pub stays : (raw : RawValue) (listed : List Word) (blocks : List ℕ) → Advances raw listed blocks listed blocks
stays raw listed blocks = record { words = λ place h. refl; more = omega arith; finer = λ first second t. t; fewer = omega arith }

pub in_turn : (raw : RawValue) (listed middle new : List Word) (blocks between after : List ℕ) → Advances raw listed blocks middle between
    → Advances raw middle between new after → Advances raw listed blocks new after
in_turn raw listed middle new blocks between after a b = record {
  words = λ place h. b.words place (omega (arith, a.more)) ∙ a.words place h;
  more = omega (arith, a.more, b.more);
  finer = λ first second t. a.finer first second (b.finer first second t);
  fewer = omega (arith, a.fewer, b.fewer);
}

-- two facts of one success
pub on_ok_two : {X E : Type 0} (result : Result X E) (P Q R : Type 0) → (P → Q → R) → OnOk result P → OnOk result Q → OnOk result R
on_ok_two (Ok x) P Q R f p q = f p q
on_ok_two (Err e) P Q R f p q = tt

-- ---- going on from a suffix

-- the part of a suffix says where a letter before it tells states of one block apart, once all earlier suffixes were gone on from
pub told_by_part : (raw : RawValue) → AreVertices raw → (suffixes : List Suffix) (blocks : List ℕ) (parts : List (List ℕ)) (place : ℕ) → IsSeparation raw suffixes blocks parts
    → AreFinished raw (suffix_words suffixes) blocks place → place < length suffixes → (first second : ℕ) (letter : List Bool) → AreTogether raw blocks first second
    → length letter ≡ raw.arena.slots
    → TellAlike (accepts_word raw (letter ∷ word_at (suffix_words suffixes) place)) (λ state. has (part_at parts place) (next_in raw state letter)) first second
told_by_part raw v suffixes blocks parts place s finished within first second letter t width =
    s.are_parts.part place (next_in raw first letter) (next_in raw second letter) (omega (arith, length-suffix_words suffixes))
    (next_below raw v first letter t.first_is width) (next_below raw v second letter t.second_is width)
    (λ n below. finished n first second letter below t width)

-- one suffix more was gone on from
pub finished_more : (raw : RawValue) (listed new_listed : List Word) (blocks new : List ℕ) (place : ℕ) → place < length listed → Advances raw listed blocks new_listed new
    → AreFinished raw listed blocks place
    → ((first second : ℕ) (letter : List Bool) → AreTogether raw new first second → length letter ≡ raw.arena.slots
    → accepts_word raw (letter ∷ word_at listed place) first ≡ accepts_word raw (letter ∷ word_at listed place) second)
    → AreFinished raw new_listed new (suc place)
finished_more raw listed new_listed blocks new place within a finished done n first second letter below t width =
    let same = a.words n (omega arith) in
    let one = ap (λ word. accepts_word raw word (next_in raw first letter)) same in
    let other = ap (λ word. accepts_word raw word (next_in raw second letter)) same in
    elim (last_or_before n place below) [
      | inl h ↦ one ∙ finished n first second letter h (a.finer first second t) width ∙ sym other
      | inr e ↦ one ∙ subst (λ n. accepts_at raw listed n (next_in raw first letter) ≡ accepts_at raw listed n (next_in raw second letter)) (sym e) (done first second letter t width) ∙ sym other
    ]

-- ---- the end

-- states of one block accept the same words
pub one_block_alike : (raw : RawValue) (listed : List Word) → AreVertices raw → (s : IsSeparated raw listed) → (word : Word) (first second : ℕ) → Widths raw.arena.slots word
    → AreTogether raw s.block_numbers first second → accepts_word raw word first ≡ accepts_word raw word second
one_block_alike raw listed v s [] first second w t =
    let at = s.are_blocks.together first second t 0 s.are_listed.some in
    sym (ap (λ word. accepts_word raw word first) s.are_listed.first) ∙ at ∙ ap (λ word. accepts_word raw word second) s.are_listed.first
one_block_alike raw listed v s (letter ∷ word) first second w t =
    let width = Widths-head raw.arena.slots letter word w in
    let one = next_below raw v first letter t.first_is width in
    let other = next_below raw v second letter t.second_is width in
    one_block_alike raw listed v s word (next_in raw first letter) (next_in raw second letter) (Widths-tail raw.arena.slots letter word w) (record {
      first_is = one;
      second_is = other;
      same = s.are_blocks.apart (next_in raw first letter) (next_in raw second letter) one other (λ place below. s.are_finished place first second letter below t width);
    })
