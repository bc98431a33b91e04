-- What a core says of an interval depends on the letters of that interval alone: two words whose letters agree there, instant
-- by instant, say the same, wherever the intervals begin.
use Rattle.std.proofs.Common.{◌≡◌, ℕ, suc, ◌+◌, ◌-◌, ◌<◌, ◌≤◌, Bool, true, not, [], ◌∷◌, ◌++◌, length, drop, refl, sym, ap, ◌∙◌, arith, length-take, length-drop}
use Rattle.std.specs.Prelude.{◌&&◌}
use Rattle.std.proofs.lemmas.List.{get_or-take, get_or-drop}
use Rattle.dcv_word.specs.Behaviour.{Word}
use Rattle.dcv_language.specs.Operations.{with_track, some_track}
use Rattle.dcv_logic.specs.Track.{Track, truth_at, track_of}
use Rattle.dcv_logic.specs.Satisfaction.{compares}
use Rattle.dcv_logic.specs.Connectives.{joins, star}
use Rattle.dcv_logic.proofs.InWords.{some_track-found, track-length, track-values}
use Rattle.dcv_core.specs.Core.{PlainTruth, TruthSlot, PlainBasic, BasicConstant, BasicBracketed, BasicSlen, BasicCounted, BasicTrack, CoreTree, CoreAtom, CoreNot, CoreJoined, CoreChop, CoreStar, CoreExists}
use Rattle.dcv_core.specs.Holds.{letter_at, truth_holds, holds_at, basic_holds, core_holds, part_of}
use Rattle.dcv_core.specs.Laws.{CoreIsLocal}
use Rattle.dcv_core.proofs.Tracks.{with_track-length, with_track-letter}
use Rattle.dcv_core.proofs.Chops.{by_both}
use Rattle.dcv_core.proofs.Aligned.{Beside, some_between-beside, bracket-beside, counted-beside, track-beside, star-beside}

-- from instant b to e the word u has the letters that v has from x to y
pub record SamePart (u v : Word) (b e x y : ℕ) : Type 0 where
  pub begins : b ≤ e
  pub inside : e < length u
  pub inside_other : y < length v
  pub level : Beside b x e y
  pub letters : (m m' : ℕ) → b ≤ m → m ≤ e → Beside b x m m' → letter_at u m ≡ letter_at v m'

-- a part of it
pub inner_part : (u v : Word) (b e x y : ℕ) → SamePart u v b e x y → (m k m' k' : ℕ) → b ≤ m → m ≤ k → k ≤ e → Beside b x m m' → Beside b x k k' → SamePart u v m k m' k'
inner_part u v b e x y s m k m' k' lo up hi beside_m beside_k = record {
  begins = up;
  inside = omega (arith, hi, s.inside);
  inside_other = omega (arith, hi, s.inside_other, s.level, beside_k);
  level = omega (arith, beside_m, beside_k);
  letters = λ i i' low high beside. s.letters i i' (omega (arith, lo, low)) (omega (arith, hi, high)) (omega (arith, beside, beside_m));
}

other_way : (u v : Word) (b e x y : ℕ) → SamePart u v b e x y → SamePart v u x y b e
other_way u v b e x y s = record {
  begins = omega (arith, s.begins, s.level);
  inside = s.inside_other;
  inside_other = s.inside;
  level = omega (arith, s.level);
  letters = λ i i' low high beside. sym (s.letters i' i (omega (arith, low, beside)) (omega (arith, high, beside, s.level)) (omega (arith, beside)));
}

-- the atoms
module _ (u v : Word) (b e x y : ℕ) (s : SamePart u v b e x y) where
  here : (p : PlainTruth) (m m' : ℕ) → b ≤ m → m ≤ e → Beside b x m m' → holds_at p u m ≡ holds_at p v m'
  here p m m' lo hi beside = ap (truth_holds p) (s.letters m m' lo hi beside)

  steps : e - b ≡ y - x
  steps = omega (arith, s.level)

  basic_local : (basic : PlainBasic) → basic_holds basic u b e ≡ basic_holds basic v x y
  basic_local (BasicConstant truth) = refl
  basic_local (BasicBracketed bracket p) = bracket-beside b e x y s.level s.begins (holds_at p u) (holds_at p v) (here p) bracket
  basic_local (BasicSlen relation n) = ap (λ c. compares relation c n) steps
  basic_local (BasicCounted count p relation n) = ap (λ c. compares relation c n) (counted-beside b e x y s.level s.begins (holds_at p u) (holds_at p v) (here p) count)
  basic_local (BasicTrack direction p slot) =
      track-beside b e x y s.level s.begins (holds_at p u) (holds_at p v) (here p) (holds_at (TruthSlot slot) u) (holds_at (TruthSlot slot) v) (here (TruthSlot slot)) direction

-- a track of one word, moved to the other
abbrev moved : Track → ℕ → ℕ → ℕ → Track
moved track b x n = track_of n (λ i. truth_at track (i + b - x))

module _ (u v : Word) (b e x y : ℕ) (s : SamePart u v b e x y) (track : Track) (level : length track ≡ length u) where
  moved_level : length (moved track b x (length v)) ≡ length v
  moved_level = track-length (length v) (λ i. truth_at track (i + b - x))

  moved_part : SamePart (with_track u track) (with_track v (moved track b x (length v))) b e x y
  moved_part = record {
    begins = s.begins;
    inside = omega (arith, s.inside, with_track-length u track level);
    inside_other = omega (arith, s.inside_other, with_track-length v (moved track b x (length v)) moved_level);
    level = s.level;
    letters = λ m m' lo hi beside.
        let in_v : m' < length v = omega (arith, s.inside_other, beside, s.level, hi) in
        let in_u : m < length u = omega (arith, s.inside, hi) in
        let back : m' + b - x ≡ m = omega (arith, beside, lo) in
        let truth : truth_at track m ≡ truth_at (moved track b x (length v)) m' =
        sym (track-values (length v) (λ i. truth_at track (i + b - x)) m' in_v ∙ ap (truth_at track) back) in
        with_track-letter u track m level in_u
        ∙ (λ i. s.letters m m' lo hi beside i ++ truth i ∷ [])
        ∙ sym (with_track-letter v (moved track b x (length v)) m' moved_level in_v);
  }

some_moved : (u v : Word) (b e x y : ℕ) (p q : Track → Bool) → SamePart u v b e x y
    → ((track other : Track) → length track ≡ length u → length other ≡ length v → SamePart (with_track u track) (with_track v other) b e x y → p track ≡ q other)
    → some_track (length u) p ≡ true → some_track (length v) q ≡ true
some_moved u v b e x y p q s same some = give ((some_track-found (length u) p).0 some)
  where
    give : ((track : Track) × (length track ≡ length u) × (p track ≡ true)) → some_track (length v) q ≡ true
    give (track, level, holds) =
        let other = moved track b x (length v) in
        let other_level = moved_level u v b e x y s track level in
        (some_track-found (length v) q).1 (other, other_level, sym (same track other level other_level (moved_part u v b e x y s track level)) ∙ holds)

pub local : (core : CoreTree) (u v : Word) (b e x y : ℕ) → SamePart u v b e x y → core_holds core u b e ≡ core_holds core v x y
local (CoreAtom basic span) u v b e x y s = basic_local u v b e x y s basic
local (CoreNot d span) u v b e x y s = ap not (local d u v b e x y s)
local (CoreJoined connective c d span) u v b e x y s =
    let one = local c u v b e x y s in
    let two = local d u v b e x y s in
    λ i. joins connective (one i) (two i)
local (CoreChop c d span) u v b e x y s =
    some_between-beside b e x y s.level (λ m. core_holds c u b m && core_holds d u m e) (λ m. core_holds c v x m && core_holds d v m y)
    (λ m m' lo hi beside.
    let one = local c u v b m x m' (inner_part u v b e x y s b m x m' (omega arith) lo hi (omega arith) beside) in
    let two = local d u v m e m' y (inner_part u v b e x y s m e m' y lo hi (omega arith) beside s.level) in
    λ i. one i && two i)
local (CoreStar d span) u v b e x y s =
    star-beside (core_holds d u) (core_holds d v) (e - b) b e x y s.level
    (λ m k m' k' lo up hi beside_m beside_k. local d u v m k m' k' (inner_part u v b e x y s m k m' k' lo up hi beside_m beside_k))
    ∙ ap (λ n. star (core_holds d v) n x y) (steps u v b e x y s)
local (CoreExists d span) u v b e x y s =
    by_both (some_track (length u) (λ track. core_holds d (with_track u track) b e)) (some_track (length v) (λ track. core_holds d (with_track v track) x y))
    (some_moved u v b e x y (λ track. core_holds d (with_track u track) b e) (λ track. core_holds d (with_track v track) x y) s
    (λ track other level other_level same. local d (with_track u track) (with_track v other) b e x y same))
    (some_moved v u x y b e (λ track. core_holds d (with_track v track) x y) (λ track. core_holds d (with_track u track) b e) (other_way u v b e x y s)
    (λ track other level other_level same. local d (with_track v track) (with_track u other) x y b e same))

-- a part of a word is a word with the same letters
pub part_same : (word : Word) (b e : ℕ) → b ≤ e → e < length word → SamePart word (part_of word b e) b e 0 (e - b)
part_same word b e le lt = record {
  begins = le;
  inside = lt;
  inside_other = omega (arith, le, lt, length-take (suc (e - b)) (drop b word), length-drop b word);
  level = omega (arith, le);
  letters = λ m m' lo hi beside.
      ap (letter_at word) (omega (arith, beside))
      ∙ sym (get_or-drop b word m' [])
      ∙ sym (get_or-take (suc (e - b)) (drop b word) m' [] (omega (arith, beside, hi, le)));
}

pub core_is_local : CoreIsLocal
core_is_local core word b e le lt = local core word (part_of word b e) b e 0 (e - b) (part_same word b e le lt)
