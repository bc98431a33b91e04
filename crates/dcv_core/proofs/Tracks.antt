-- Letters, tracks and words with a further slot.
use Rattle.std.proofs.Common.{◌≡◌, ℕ, zero, suc, ◌<◌, Bool, false, List, [], ◌∷◌, ◌++◌, length, refl, sym, ap, ◌∙◌, arith}
use Rattle.std.proofs.Math.ListN.{get_or-append}
use Rattle.std.proofs.Math.Seq.{get_or-append_seam}
use Rattle.std.proofs.lemmas.List.{append_assoc, append-nil}
use Rattle.dcv_word.specs.Behaviour.{Word}
use Rattle.dcv_language.specs.Operations.{with_track}
use Rattle.dcv_logic.specs.Track.{Track, truth_at, slot_track}
use Rattle.dcv_core.specs.Holds.{letter_at}

pub with_track-length : (word : Word) (track : Track) → length track ≡ length word → length (with_track word track) ≡ length word
with_track-length [] track e = refl
with_track-length (letter ∷ letters) [] e = absurd (omega (arith, e))
with_track-length (letter ∷ letters) (truth ∷ track) e = ap suc (with_track-length letters track (omega (arith, e)))

pub with_track-letter : (word : Word) (track : Track) (i : ℕ) → length track ≡ length word → i < length word
    → letter_at (with_track word track) i ≡ letter_at word i ++ truth_at track i ∷ []
with_track-letter [] track i e lt = absurd (omega (arith, lt))
with_track-letter (letter ∷ letters) [] i e lt = absurd (omega (arith, e))
with_track-letter (letter ∷ letters) (truth ∷ track) zero e lt = refl
with_track-letter (letter ∷ letters) (truth ∷ track) (suc i) e lt = with_track-letter letters track i (omega (arith, e)) (omega (arith, lt))

pub slot_track-truth : (word : Word) (slot i : ℕ) → i < length word → truth_at (slot_track word slot) i ≡ truth_at (letter_at word i) slot
slot_track-truth [] slot i lt = absurd (omega (arith, lt))
slot_track-truth (letter ∷ letters) slot zero lt = refl
slot_track-truth (letter ∷ letters) slot (suc i) lt = slot_track-truth letters slot i (omega (arith, lt))

-- a word of the same length whose letters go on from this one's
pub record Further (word further : Word) : Type 0 where
  pub level : length further ≡ length word
  pub more : (i : ℕ) → i < length word → (rest : List Bool) × (letter_at further i ≡ letter_at word i ++ rest)

pub further_itself : (word : Word) → Further word word
further_itself word = record { level = refl; more = λ i lt. ([], sym (append-nil (letter_at word i))) }

pub further_on : (word further last : Word) → Further word further → Further further last → Further word last
further_on word further last f g = record {
  level = g.level ∙ f.level;
  more = λ i lt.
      let one = f.more i lt in
      let two = g.more i (omega (arith, lt, f.level)) in
      (one.0 ++ two.0, two.1 ∙ ap (λ l. l ++ two.0) one.1 ∙ append_assoc (letter_at word i) one.0 two.0);
}

pub further_by_track : (word : Word) (track : Track) → length track ≡ length word → Further word (with_track word track)
further_by_track word track e = record {
  level = with_track-length word track e;
  more = λ i lt. (truth_at track i ∷ [], with_track-letter word track i e lt);
}

-- what a slot has is the same further on
pub slot_further : (letter rest : List Bool) (slot : ℕ) → slot < length letter → truth_at (letter ++ rest) slot ≡ truth_at letter slot
slot_further letter rest slot lt = get_or-append letter rest false slot lt

-- the slot after a letter's own
pub slot_behind : (letter rest : List Bool) (truth : Bool) → truth_at (letter ++ truth ∷ rest) (length letter) ≡ truth
slot_behind letter rest truth = get_or-append_seam letter truth rest false
