-- For every word exactly one list of tracks is accepted by the rows of a goal's shifts, one shift after the other.
use Rattle.std.proofs.Common.{◌≡◌, ℕ, suc, ◌+◌, ◌-◌, ◌<◌, Bool, true, false, List, [], ◌∷◌, ◌++◌, length, length-append, refl, sym, ap, subst, ◌∙◌, arith}
use Rattle.std.specs.Prelude.{nat_eq, nat_lt, if◌then◌else◌}
use Rattle.std.proofs.lemmas.Bool.Decides.{nat_tests}
use Rattle.std.proofs.lemmas.List.{append_assoc}
use Rattle.std.proofs.lemmas.List.Elements.{All-get_or}
use Rattle.dcv_word.specs.Behaviour.{Word, IsBehaviour}
use Rattle.dcv_language.specs.Operations.{with_track}
use Rattle.dcv_logic.specs.Track.{Track, truth_at, track_of}
use Rattle.dcv_logic.proofs.InWords.{track-length, track-values}
use Rattle.dcv_core.specs.Core.{PlainTruth, TruthConstant, TruthSlot, TruthNot, TruthJoined, TruthShift, PlainTruths, no_truths, truth_operand}
use Rattle.dcv_core.specs.Holds.{letter_at, truth_holds, basic_holds}
use Rattle.dcv_logic.specs.Value.{shifted}
use Rattle.dcv_core.proofs.Tracks.{with_track-length, with_track-letter}
use Rattle.dcv_tracks.specs.Shifting.{Shift, placed, all_placed, placed_slot, slot_of, shift_basic, shifts_in}
use Rattle.dcv_tracks.specs.Tracks.{AreTracks}
use Rattle.dcv_tracks.specs.Laws.{OneListOfTracks}
use Rattle.dcv_tracks.proofs.Standing.{IsCovered, AreCovered, position}
use Rattle.dcv_tracks.proofs.Order.{AreOrdered, shifts_ordered}
use Rattle.dcv_tracks.proofs.Rows.{Avoids, AllAvoid, row_follows}

-- ---- a shift's operand does not name the shift's own slot

module _ (k : ℕ) (all seen : List Shift) (own : Shift) (rest : List Shift) (is : all ≡ seen ++ own ∷ rest) where
  behind : length seen < length all
  behind = omega (arith, ap length is, length-append seen (own ∷ rest))

  other_slot : (slot : ℕ) → slot < k + length seen → nat_eq slot (k + length seen) ≡ false
  other_slot slot below = grind (arith, nat_tests)

  slot_avoids : (slot : ℕ) → nat_eq (placed_slot k all slot) (k + length seen) ≡ false
  slot_avoids slot = avoids (nat_lt slot k) refl
    where
      avoids : (declared : Bool) → nat_lt slot k ≡ declared → nat_eq (if declared then slot else slot + length all) (k + length seen) ≡ false
      avoids true below = grind (arith, nat_tests)
      avoids false beyond = grind (arith, nat_tests, behind)

  mutual
    pub operand_avoids : (p : PlainTruth) → IsCovered seen p → Avoids (k + length seen) (placed k all p)
    operand_avoids (TruthConstant truth) c = tt
    operand_avoids (TruthSlot slot) c = slot_avoids slot
    operand_avoids (TruthNot p) c = operand_avoids p c
    operand_avoids (TruthJoined connective operands) c = operands_avoid operands c
    operand_avoids (TruthShift direction p span) c =
        let shift : Shift = record { direction = direction; operand = p; span = span } in
        let slot = position k all seen (own ∷ rest) shift is c in
        let at = slot.slot in
        let before = slot.inside in
        other_slot (slot_of k all shift) (omega (arith, at, before))

    operands_avoid : (operands : PlainTruths) → AreCovered seen operands → AllAvoid (k + length seen) (all_placed k all operands)
    operands_avoid no_truths c = tt
    operands_avoid (truth_operand p operands) c = (operand_avoids p c.0, operands_avoid operands c.1)

-- ---- tracks

-- two tracks of one length with the same truths
pub same_track : (track other : Track) → length track ≡ length other → ((i : ℕ) → i < length track → truth_at track i ≡ truth_at other i) → track ≡ other
same_track [] [] level same = refl
same_track [] (truth ∷ other) level same = absurd (omega (arith, level))
same_track (truth ∷ track) [] level same = absurd (omega (arith, level))
same_track (truth ∷ track) (first ∷ other) level same =
    let one = same 0 (omega arith) in
    let more = same_track track other (omega (arith, level)) (λ i lt. same (suc i) (omega (arith, lt))) in
    λ j. one j ∷ more j

-- the widths with a slot more
pub wider : (word : Word) (track : Track) (width : ℕ) → length track ≡ length word → ((i : ℕ) → i < length word → length (letter_at word i) ≡ width)
    → (i : ℕ) → i < length (with_track word track) → length (letter_at (with_track word track) i) ≡ suc width
wider word track width level widths i lt =
    let in_word : i < length word = omega (arith, lt, with_track-length word track level) in
    ap length (with_track-letter word track i level in_word)
    ∙ length-append (letter_at word i) (truth_at track i ∷ [])
    ∙ omega (arith, widths i in_word)

-- what a shift is on a word, where its operand has slots for the shifts in it
abbrev pub own_track : ℕ → List Shift → Shift → Word → Track
own_track k all shift word = track_of (length word) (shifted shift.direction (length word) (λ i. truth_holds (placed k all shift.operand) (letter_at word i)))

module _ (k : ℕ) (all : List Shift) where
  -- the row of a shift over this slot accepts its own track and no other
  pub record Only (shift : Shift) (slot : ℕ) (word : Word) (track : Track) : Type 0 where
    pub level : length track ≡ length word
    pub accepts : basic_holds (shift_basic k all shift slot) (with_track word track) 0 (length word - 1) ≡ true
    pub alone : (other : Track) → length other ≡ length word → basic_holds (shift_basic k all shift slot) (with_track word other) 0 (length word - 1) ≡ true → other ≡ track

  pub own_only : (seen : List Shift) (shift : Shift) (rest : List Shift) → all ≡ seen ++ shift ∷ rest → IsCovered seen shift.operand
      → (slot : ℕ) → slot ≡ k + length seen → (word : Word) → 0 < length word → ((i : ℕ) → i < length word → length (letter_at word i) ≡ slot)
      → Only shift slot word (own_track k all shift word)
  own_only seen shift rest is covered slot at word some widths =
      let f = shifted shift.direction (length word) (λ i. truth_holds (placed k all shift.operand) (letter_at word i)) in
      let own = track_of (length word) f in
      let own_level = track-length (length word) f in
      let avoids = subst (λ s. Avoids s (placed k all shift.operand)) (sym at) (operand_avoids k all seen shift rest is shift.operand covered) in
      record {
        level = own_level;
        accepts = (row_follows (placed k all shift.operand) slot avoids word some widths own own_level shift.direction).1 (track-values (length word) f);
        alone = λ other level accepted.
            let follows = (row_follows (placed k all shift.operand) slot avoids word some widths other level shift.direction).0 accepted in
            same_track other own (level ∙ sym own_level) (λ i lt.
            let in_word : i < length word = omega (arith, lt, level) in
            follows i in_word ∙ sym (track-values (length word) f i in_word));
      }

  pub record OneList (slot : ℕ) (shifts : List Shift) (word : Word) : Type 0 where
    pub tracks : List Track
    pub accepted : AreTracks k all slot shifts word tracks
    pub alone : (others : List Track) → AreTracks k all slot shifts word others → others ≡ tracks

  no_shifts : (slot : ℕ) (word : Word) → OneList slot [] word
  no_shifts slot word = record { tracks = []; accepted = tt; alone = only_none }
    where
      only_none : (others : List Track) → AreTracks k all slot [] word others → others ≡ []
      only_none [] a = refl
      only_none (track ∷ others) a = absurd a

  one_more : (shift : Shift) (slot : ℕ) (shifts : List Shift) (word : Word) (track : Track) → Only shift slot word track
      → OneList (suc slot) shifts (with_track word track) → OneList slot (shift ∷ shifts) word
  one_more shift slot shifts word track only list = record {
    tracks = track ∷ list.tracks;
    accepted = (only.level, only.accepts, list.accepted);
    alone = alone;
  }
    where
      alone : (others : List Track) → AreTracks k all slot (shift ∷ shifts) word others → others ≡ track ∷ list.tracks
      alone [] a = absurd a
      alone (other ∷ others) a =
          let same = only.alone other a.0 a.1 in
          let more = list.alone others (subst (λ t. AreTracks k all (suc slot) shifts (with_track word t) others) same a.2) in
          λ j. same j ∷ more j

  one_list : (seen shifts : List Shift) → all ≡ seen ++ shifts → AreOrdered seen shifts → (slot : ℕ) → slot ≡ k + length seen
      → (word : Word) → 0 < length word → ((i : ℕ) → i < length word → length (letter_at word i) ≡ slot) → OneList slot shifts word
  one_list seen [] is ordered slot at word some widths = no_shifts slot word
  one_list seen (shift ∷ shifts) is ordered slot at word some widths =
      let only = own_only seen shift shifts is ordered.0 slot at word some widths in
      let own = own_track k all shift word in
      one_more shift slot shifts word own only
      (one_list (seen ++ shift ∷ []) shifts (is ∙ sym (append_assoc seen (shift ∷ []) shifts)) ordered.1 (suc slot) (omega (arith, at, length-append seen (shift ∷ [])))
      (with_track word own) (omega (arith, some, with_track-length word own only.level)) (wider word own slot only.level widths))

-- the width of each letter
pub width_at : (k : ℕ) (word : Word) → IsBehaviour k word → (i : ℕ) → i < length word → length (letter_at word i) ≡ k
width_at k word behaves i lt = All-get_or (λ (letter : List Bool). length letter ≡ k) word i [] lt behaves.widths

pub one_list_of_tracks : OneListOfTracks
one_list_of_tracks k goal word behaves =
    let list = one_list k (shifts_in goal) [] (shifts_in goal) refl (shifts_ordered goal) k (omega arith) word behaves.nonempty (width_at k word behaves) in
    (list.tracks, list.accepted, list.alone)
