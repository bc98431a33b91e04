-- On the tracks of its shifts the goal with slots holds where the goal does, and closing it asks for these tracks and no others: so the core holds on a word where the
-- goal does.
use Rattle.std.proofs.Common.{◌≡◌, ℕ, suc, ◌+◌, ◌-◌, ◌<◌, Bool, true, List, [], ◌∷◌, ◌++◌, length, length-append, refl, sym, ap, subst, ◌∙◌, arith}
use Rattle.std.specs.Prelude.{◌&&◌}
use Rattle.std.proofs.lemmas.List.{append_assoc, append-nil}
use Rattle.dcv_word.specs.Behaviour.{Word, IsBehaviour}
use Rattle.dcv_language.specs.Operations.{with_track, some_track}
use Rattle.dcv_logic.specs.Track.{Track}
use Rattle.dcv_logic.specs.Value.{shifted}
use Rattle.dcv_logic.proofs.InWords.{some_track-found}
use Rattle.dcv_core.specs.Core.{CoreTree}
use Rattle.dcv_core.specs.Holds.{letter_at, truth_holds, value_at, basic_holds, core_holds}
use Rattle.dcv_core.proofs.Chops.{and-parts, by_both}
use Rattle.dcv_core.proofs.Tracks.{with_track-length}
use Rattle.dcv_tracks.specs.Shifting.{Shift, placed, placed_core, shift_basic, closed_from, shifts_in}
use Rattle.dcv_tracks.specs.Tracks.{with_tracks, AreTracks}
use Rattle.dcv_tracks.specs.Laws.{GoalHoldsOnTracks, CoreHoldsOnWord}
use Rattle.dcv_tracks.proofs.Standing.{shifted_within, Stands, placed_value, placed_holds, first_stand, one_shift_more}
use Rattle.dcv_tracks.proofs.Order.{AreOrdered, shifts_ordered, goal_covered}
use Rattle.dcv_tracks.proofs.Unbound.{shifts_unbound, unbound_at}
use Rattle.dcv_tracks.proofs.Rows.{Avoids, row_follows}
use Rattle.dcv_tracks.proofs.OneList.{own_track, own_only, operand_avoids, wider, width_at, one_list_of_tracks}

-- ---- tracks of shifts stand for them

module _ (k : ℕ) (all : List Shift) (word : Word) (some : 0 < length word) where
  stand_on : (seen shifts : List Shift) → all ≡ seen ++ shifts → AreOrdered seen shifts → (slot : ℕ) → slot ≡ k + length seen → (other : Word) → Stands k all seen 0 word other
      → (tracks : List Track) → AreTracks k all slot shifts other tracks → Stands k all all 0 word (with_tracks other tracks)
  stand_on seen [] is ordered slot at other stands [] are = subst (λ list. Stands k all list 0 word other) (sym (is ∙ append-nil seen)) stands
  stand_on seen [] is ordered slot at other stands (track ∷ tracks) are = absurd are
  stand_on seen (shift ∷ shifts) is ordered slot at other stands [] are = absurd are
  stand_on seen (shift ∷ shifts) is ordered slot at other stands (track ∷ tracks) are =
      let level : length track ≡ length word = are.0 ∙ stands.level in
      let widths = λ (i : ℕ) (lt : i < length other). stands.other_widths i (omega (arith, lt, stands.level)) ∙ omega (arith, at) in
      let avoids = subst (λ s. Avoids s (placed k all shift.operand)) (sym at) (operand_avoids k all seen shift shifts is shift.operand ordered.0) in
      let follows = (row_follows (placed k all shift.operand) slot avoids other (omega (arith, some, stands.level)) widths track are.0 shift.direction).0 are.1 in
      let values = λ (i : ℕ) (lt : i < length word).
      follows i (omega (arith, lt, stands.level))
      ∙ ap (λ n. shifted shift.direction n (λ j. truth_holds (placed k all shift.operand) (letter_at other j)) i) stands.level
      ∙ shifted_within shift.direction (length word) (λ j. truth_holds (placed k all shift.operand) (letter_at other j)) (value_at shift.operand word)
      (λ j within. placed_value k all seen (shift ∷ shifts) is 0 word other stands j within shift.operand ordered.0) i lt in
      stand_on (seen ++ shift ∷ []) shifts (is ∙ sym (append_assoc seen (shift ∷ []) shifts)) ordered.1 (suc slot) (omega (arith, at, length-append seen (shift ∷ [])))
      (with_track other track) (one_shift_more k all seen shifts shift is word other stands track level values) tracks are.2

pub tracks_stand : (k : ℕ) (goal : CoreTree) (word : Word) (tracks : List Track) → IsBehaviour k word → AreTracks k (shifts_in goal) k (shifts_in goal) word tracks
    → Stands k (shifts_in goal) (shifts_in goal) 0 word (with_tracks word tracks)
tracks_stand k goal word tracks behaves are =
    stand_on k (shifts_in goal) word behaves.nonempty [] (shifts_in goal) refl (shifts_ordered goal) k (omega arith) word (first_stand k (shifts_in goal) word (width_at k word behaves)) tracks are

pub goal_holds_on_tracks : GoalHoldsOnTracks
goal_holds_on_tracks k goal word tracks behaves none are b e le lt =
    placed_holds k (shifts_in goal) (unbound_at k (shifts_in goal) (shifts_unbound k goal none)) goal (goal_covered goal) 0 word (with_tracks word tracks)
    (tracks_stand k goal word tracks behaves are) b e le lt

-- ---- closing

-- some track has both where the one that has the second has the first
only_track : (n : ℕ) (f g : Track → Bool) (only : Track) → length only ≡ n → g only ≡ true → ((track : Track) → length track ≡ n → g track ≡ true → track ≡ only)
    → some_track n (λ track. f track && g track) ≡ f only
only_track n f g only level has alone = by_both (some_track n (λ track. f track && g track)) (f only) (λ some. found ((some_track-found n (λ track. f track && g track)).0 some))
    (λ is. (some_track-found n (λ track. f track && g track)).1 (only, level, λ i. is i && has i))
  where
    found : ((track : Track) × (length track ≡ n) × ((f track && g track) ≡ true)) → f only ≡ true
    found (track, there, both) =
        let parts = and-parts (f track) (g track) both in
        ap f (sym (alone track there parts.1)) ∙ parts.0

module _ (k : ℕ) (all : List Shift) where
  close_on : (seen shifts : List Shift) → all ≡ seen ++ shifts → AreOrdered seen shifts → (slot : ℕ) → slot ≡ k + length seen
      → (word : Word) → 0 < length word → ((i : ℕ) → i < length word → length (letter_at word i) ≡ slot) → (tracks : List Track) → AreTracks k all slot shifts word tracks
      → (core : CoreTree) (e : ℕ) → e ≡ length word - 1 → core_holds (closed_from k all slot shifts core) word 0 e ≡ core_holds core (with_tracks word tracks) 0 e
  close_on seen [] is ordered slot at word some widths [] are core e last = refl
  close_on seen [] is ordered slot at word some widths (track ∷ tracks) are core e last = absurd are
  close_on seen (shift ∷ shifts) is ordered slot at word some widths [] are core e last = absurd are
  close_on seen (shift ∷ shifts) is ordered slot at word some widths (track ∷ tracks) are core e last =
      let only = own_only k all seen shift shifts is ordered.0 slot at word some widths in
      let own = own_track k all shift word in
      let is_own : track ≡ own = only.alone track are.0 are.1 in
      let row = λ (t : Track). basic_holds (shift_basic k all shift slot) (with_track word t) 0 e in
      let inner = λ (t : Track). core_holds (closed_from k all (suc slot) shifts core) (with_track word t) 0 e in
      let to_last = λ (t : Track). ap (basic_holds (shift_basic k all shift slot) (with_track word t) 0) last in
      let here : row track ≡ true = to_last track ∙ are.1 in
      let alone = λ (t : Track) (level : length t ≡ length word) (has : row t ≡ true). only.alone t level (sym (to_last t) ∙ has) ∙ sym is_own in
      only_track (length word) inner row track are.0 here alone
      ∙ close_on (seen ++ shift ∷ []) shifts (is ∙ sym (append_assoc seen (shift ∷ []) shifts)) ordered.1 (suc slot) (omega (arith, at, length-append seen (shift ∷ [])))
      (with_track word track) (omega (arith, some, with_track-length word track are.0)) (wider word track slot are.0 widths) tracks are.2 core e
      (omega (arith, last, with_track-length word track are.0))

pub core_holds_on_word : CoreHoldsOnWord
core_holds_on_word k goal word behaves none =
    let all = shifts_in goal in
    let list = one_list_of_tracks k goal word behaves in
    close_on k all [] all refl (shifts_ordered goal) k (omega arith) word behaves.nonempty (width_at k word behaves) list.0 list.1 (placed_core k all goal) (length word - 1) refl
    ∙ goal_holds_on_tracks k goal word list.0 behaves none list.1 0 (length word - 1) (omega arith) (omega (arith, behaves.nonempty))
