-- A goal with slots for its shifts, on a word with a slot more for each of them, has the values that the goal has on the word.
use Rattle.std.proofs.Common.{◌≡◌, ℕ, zero, suc, ◌+◌, ◌-◌, ◌<◌, ◌≤◌, Bool, true, false, cond, not, List, [], ◌∷◌, ◌++◌, ◌⊎◌, inl, inr, length, slice_get, Option, Some, None, unwrap_or, is_some, refl, sym, ap, ◌∙◌, arith, true≢false}
use Rattle.std.proofs.Common.{length-append, append-nil}
use Rattle.std.specs.Prelude.{◌||◌, ◌&&◌, nat_lt, if◌then◌else◌}
use Rattle.std.proofs.Math.Nat.{eq-or-lt_of_le}
use Rattle.std.proofs.lemmas.Bool.{cases_lt}
use Rattle.std.specs.List.{list_any, position_or_len}
use Rattle.std.proofs.lemmas.Bool.Decides.{nat_tests}
use Rattle.std.proofs.lemmas.List.{get_or_past}
use Rattle.std.proofs.lemmas.Option.{slice_get_within}
use Rattle.dcv_word.specs.Behaviour.{Word}
use Rattle.dcv_language.specs.Operations.{with_track, some_track}
use Rattle.dcv_language.proofs.Behaviours.{some_track-same}
use Rattle.dcv_logic.specs.Track.{Track, truth_at}
use Rattle.dcv_logic.specs.Satisfaction.{compares}
use Rattle.dcv_syntax.specs.declared.propositions.Direction.{Direction}
use Rattle.dcv_syntax.specs.declared.propositions.Direction.TheVariants.{Prior, Next}
use Rattle.dcv_core.specs.Core.{PlainTruth, TruthConstant, TruthSlot, TruthNot, TruthJoined, TruthShift, PlainTruths, no_truths, truth_operand}
use Rattle.dcv_core.specs.Core.{PlainBasic, BasicConstant, BasicBracketed, BasicSlen, BasicCounted, BasicTrack}
use Rattle.dcv_core.specs.Core.{truth_in, CoreTree, CoreAtom, CoreNot, CoreJoined, CoreChop, CoreStar, CoreExists}
use Rattle.dcv_core.specs.Holds.{letter_at, truth_holds, joined_truths, holds_at, value_at, joined_values, basic_holds_by, basic_holds, core_holds, expanded_holds}
use Rattle.dcv_logic.specs.Value.{shifted}
use Rattle.dcv_logic.specs.Connectives.{joins, of_none}
use Rattle.dcv_syntax.specs.declared.propositions.Connective.{Connective}
use Rattle.dcv_core.proofs.Tracks.{with_track-length, with_track-letter, slot_further, slot_behind}
use Rattle.dcv_core.proofs.Aligned.{less_only, and_given, some_between-same, bracket-same, counted-same, track-same, star-same}
use Rattle.dcv_tracks.specs.Shifting.{Shift, same_shift, placed_slot, slot_of, placed, all_placed, placed_basic, placed_core, names_bound, some_names_bound}
use Rattle.dcv_tracks.proofs.Sameness.{same_value}

pub neither : (a b : Bool) → (a || b) ≡ false → (a ≡ false) × (b ≡ false)
neither true b is = absurd (true≢false is)
neither false b is = (refl, is)

-- ---- goals all of whose shifts are listed

abbrev mutual
  -- each outermost shift in it is the same as one of these
  pub IsCovered : List Shift → PlainTruth → Type 0
  IsCovered seen (TruthConstant truth) = Unit {0}
  IsCovered seen (TruthSlot slot) = Unit {0}
  IsCovered seen (TruthNot p) = IsCovered seen p
  IsCovered seen (TruthJoined connective operands) = AreCovered seen operands
  IsCovered seen (TruthShift direction p span) = list_any (same_shift (record { direction = direction; operand = p; span = span })) seen ≡ true

  pub AreCovered : List Shift → PlainTruths → Type 0
  AreCovered seen no_truths = Unit {0}
  AreCovered seen (truth_operand p operands) = IsCovered seen p × AreCovered seen operands

-- so is the proposition of a form, where it has one
abbrev pub FormIsCovered : List Shift → Option PlainTruth → Type 0
FormIsCovered seen None = Unit {0}
FormIsCovered seen (Some p) = IsCovered seen p

abbrev pub CoreIsCovered : List Shift → CoreTree → Type 0
CoreIsCovered seen (CoreAtom basic span) = FormIsCovered seen (truth_in basic)
CoreIsCovered seen (CoreNot d span) = CoreIsCovered seen d
CoreIsCovered seen (CoreJoined connective c d span) = CoreIsCovered seen c × CoreIsCovered seen d
CoreIsCovered seen (CoreChop c d span) = CoreIsCovered seen c × CoreIsCovered seen d
CoreIsCovered seen (CoreStar d span) = CoreIsCovered seen d
CoreIsCovered seen (CoreExists d span) = CoreIsCovered seen d

-- ---- the slot of a shift

-- the first of the shifts seen that is the same as this one, and the slot that it has among all
pub record HasSlot (k : ℕ) (all seen : List Shift) (shift : Shift) : Type 0 where
  pub place : ℕ
  pub found : Shift
  pub inside : place < length seen
  pub there : slice_get seen place ≡ Some found
  pub same : same_shift shift found ≡ true
  pub slot : slot_of k all shift ≡ k + place

-- the first of these that passes a test, where others follow
record FirstPlace (test : Shift → Bool) (seen rest : List Shift) : Type 0 where
  place : ℕ
  found : Shift
  inside : place < length seen
  there : slice_get seen place ≡ Some found
  passes : test found ≡ true
  first : position_or_len test (seen ++ rest) ≡ place

module _ (test : Shift → Bool) (rest : List Shift) where
  at_once : (shift : Shift) (seen : List Shift) → test shift ≡ true → FirstPlace test (shift ∷ seen) rest
  at_once shift seen passes = record {
    place = 0;
    found = shift;
    inside = omega arith;
    there = refl;
    passes = passes;
    first = ap (λ b. cond (not b) (1 + position_or_len test (seen ++ rest)) 0) passes;
  }

  one_later : (shift : Shift) (seen : List Shift) → test shift ≡ false → FirstPlace test seen rest → FirstPlace test (shift ∷ seen) rest
  one_later shift seen fails later = record {
    place = suc later.place;
    found = later.found;
    inside = omega (arith, later.inside);
    there = later.there;
    passes = later.passes;
    first = ap (λ b. cond (not b) (1 + position_or_len test (seen ++ rest)) 0) fails ∙ omega (arith, later.first);
  }

  by_test : (shift : Shift) (seen : List Shift) (b : Bool) → test shift ≡ b → (b || list_any test seen) ≡ true → (list_any test seen ≡ true → FirstPlace test seen rest)
      → FirstPlace test (shift ∷ seen) rest
  by_test shift seen true passes some later = at_once shift seen passes
  by_test shift seen false fails some later = one_later shift seen fails (later some)

  first_place : (seen : List Shift) → list_any test seen ≡ true → FirstPlace test seen rest
  first_place [] some = absurd (true≢false (sym some))
  first_place (shift ∷ seen) some = by_test shift seen (test shift) refl some (first_place seen)

pub position : (k : ℕ) (all seen rest : List Shift) (shift : Shift) → all ≡ seen ++ rest → list_any (same_shift shift) seen ≡ true → HasSlot k all seen shift
position k all seen rest shift is some =
    let at : FirstPlace (same_shift shift) seen rest = first_place (same_shift shift) rest seen some in
    record {
      place = at.place;
      found = at.found;
      inside = at.inside;
      there = at.there;
      same = at.passes;
      slot = ap (λ l. k + position_or_len (same_shift shift) l) is ∙ ap (λ n. k + n) at.first;
    }

-- ---- words with slots for shifts

abbrev pub shift_value : Shift → Word → ℕ → Bool
shift_value shift word i = value_at (TruthShift shift.direction shift.operand shift.span) word i

-- The other word has beside this one's slots one for each of the shifts seen, which are the first of all. Both have so many slots of quantifiers.
pub record Stands (k : ℕ) (all seen : List Shift) (deep : ℕ) (word other : Word) : Type 0 where
  pub level : length other ≡ length word
  pub widths : (i : ℕ) → i < length word → length (letter_at word i) ≡ k + deep
  pub other_widths : (i : ℕ) → i < length word → length (letter_at other i) ≡ k + length seen + deep
  pub slots : (i slot : ℕ) → i < length word → truth_at (letter_at other i) (placed_slot k all slot) ≡ truth_at (letter_at word i) slot
  pub values : (i place : ℕ) (shift : Shift) → i < length word → slice_get seen place ≡ Some shift → truth_at (letter_at other i) (k + place) ≡ shift_value shift word i

-- ---- propositions

module _ (k : ℕ) (all seen rest : List Shift) (is : all ≡ seen ++ rest) (deep : ℕ) (word other : Word) (s : Stands k all seen deep word other) (i : ℕ) (lt : i < length word) where
  placed_shift : (shift : Shift) → list_any (same_shift shift) seen ≡ true → truth_at (letter_at other i) (slot_of k all shift) ≡ shift_value shift word i
  placed_shift shift covered =
      let at : HasSlot k all seen shift = position k all seen rest shift is covered in
      let own = TruthShift shift.direction shift.operand shift.span in
      let listed = TruthShift at.found.direction at.found.operand at.found.span in
      ap (truth_at (letter_at other i)) at.slot ∙ s.values i at.place at.found lt at.there ∙ sym (same_value word own listed at.same i)

  mutual
    pub placed_value : (p : PlainTruth) → IsCovered seen p → truth_holds (placed k all p) (letter_at other i) ≡ value_at p word i
    placed_value (TruthConstant truth) covered = refl
    placed_value (TruthSlot slot) covered = s.slots i slot lt
    placed_value (TruthNot p) covered = ap not (placed_value p covered)
    placed_value (TruthJoined connective operands) covered = joined_placed_values connective operands covered (of_none connective)
    placed_value (TruthShift direction p span) covered = placed_shift (record { direction = direction; operand = p; span = span }) covered

    joined_placed_values : (connective : Connective) (ps : PlainTruths) → AreCovered seen ps → (so_far : Bool)
        → joined_truths connective so_far (all_placed k all ps) (letter_at other i) ≡ joined_values connective so_far ps word i
    joined_placed_values connective no_truths covered so_far = refl
    joined_placed_values connective (truth_operand p ps) covered so_far =
        ap (λ b. joined_truths connective (joins connective so_far b) (all_placed k all ps) (letter_at other i)) (placed_value p covered.0)
        ∙ joined_placed_values connective ps covered.1 (joins connective so_far (value_at p word i))

-- ---- one slot more

module _ (k : ℕ) (all : List Shift) (slot : ℕ) where
  slot_stays : slot < k → placed_slot k all slot ≡ slot
  slot_stays lt =
      let less : nat_lt slot k ≡ true = grind (arith, nat_tests) in
      ap (λ b. if b then slot else slot + length all) less

  slot_moves : k ≤ slot → placed_slot k all slot ≡ slot + length all
  slot_moves le =
      let no_less : nat_lt slot k ≡ false = grind (arith, nat_tests) in
      ap (λ b. if b then slot else slot + length all) no_less

-- a slot that a letter does not have is false
no_slot : (letter : List Bool) (slot : ℕ) → length letter ≤ slot → truth_at letter slot ≡ false
no_slot letter slot past = get_or_past letter slot false past

-- nor has it with a truth more
still_no_slot : (letter : List Bool) (truth : Bool) (slot : ℕ) → length letter < slot → truth_at (letter ++ truth ∷ []) slot ≡ false
still_no_slot letter truth slot past = no_slot (letter ++ truth ∷ []) slot (omega (arith, past, length-append letter (truth ∷ [])))

-- two slots that are the same in two letters are the same with one truth more in both, where they stand side by side
module _ (letter other : List Bool) (truth : Bool) (slot place : ℕ) (same : truth_at other place ≡ truth_at letter slot) where
  within : slot < length letter → place < length other → truth_at (other ++ truth ∷ []) place ≡ truth_at (letter ++ truth ∷ []) slot
  within lt lt_other = slot_further other (truth ∷ []) place lt_other ∙ same ∙ sym (slot_further letter (truth ∷ []) slot lt)

  at_the_end : slot ≡ length letter → place ≡ length other → truth_at (other ++ truth ∷ []) place ≡ truth_at (letter ++ truth ∷ []) slot
  at_the_end is is_other =
      ap (truth_at (other ++ truth ∷ [])) is_other
      ∙ slot_behind other [] truth
      ∙ sym (ap (truth_at (letter ++ truth ∷ [])) is ∙ slot_behind letter [] truth)

  beyond : length letter < slot → length other < place → truth_at (other ++ truth ∷ []) place ≡ truth_at (letter ++ truth ∷ []) slot
  beyond past past_other = still_no_slot other truth place past_other ∙ sym (still_no_slot letter truth slot past)

  module _ (n : ℕ) (wider : length other ≡ length letter + n) where
    from_the_end : place ≡ slot + n → (length letter ≡ slot) ⊎ (length letter < slot) → truth_at (other ++ truth ∷ []) place ≡ truth_at (letter ++ truth ∷ []) slot
    from_the_end moved (inl is) = at_the_end (sym is) (omega (arith, moved, is, wider))
    from_the_end moved (inr past) = beyond past (omega (arith, moved, past, wider))

    moved_slot : place ≡ slot + n → (slot < length letter) ⊎ (length letter ≤ slot) → truth_at (other ++ truth ∷ []) place ≡ truth_at (letter ++ truth ∷ []) slot
    moved_slot moved (inl lt) = within lt (omega (arith, moved, lt, wider))
    moved_slot moved (inr le) = from_the_end moved (eq-or-lt_of_le le)

-- so is each slot in its place
module _ (k : ℕ) (all : List Shift) (letter other : List Bool) (truth : Bool) (slot : ℕ) (declared : k ≤ length letter) (wider : length other ≡ length letter + length all) where
  placed_further : truth_at other (placed_slot k all slot) ≡ truth_at letter slot → (slot < k) ⊎ (k ≤ slot)
      → truth_at (other ++ truth ∷ []) (placed_slot k all slot) ≡ truth_at (letter ++ truth ∷ []) slot
  placed_further same (inl lt) = within letter other truth slot (placed_slot k all slot) same (omega (arith, lt, declared)) (omega (arith, lt, declared, wider, slot_stays k all slot lt))
  placed_further same (inr le) = moved_slot letter other truth slot (placed_slot k all slot) same (length all) wider (slot_moves k all slot le) (cases_lt slot (length letter))

-- ---- shifts that look at declared variables alone

-- shifts of what is the same at each instant
pub shifted_within : (direction : Direction) (n : ℕ) (f g : ℕ → Bool) → ((i : ℕ) → i < n → f i ≡ g i) → (i : ℕ) → i < n → shifted direction n f i ≡ shifted direction n g i
shifted_within Next n f g same i lt = and_given (nat_lt (i + 1) n) (f (i + 1)) (g (i + 1)) (λ less. same (i + 1) (less_only (i + 1) n less))
shifted_within Prior n f g same i lt = ap (λ b. nat_lt 0 i && b) (same (i - 1) (omega (arith, lt)))

module _ (k : ℕ) (word : Word) (track : Track) (level : length track ≡ length word) (declared : (i : ℕ) → i < length word → k ≤ length (letter_at word i)) where
  mutual
    pub unbound_value : (p : PlainTruth) → names_bound k p ≡ false → (i : ℕ) → i < length word → value_at p (with_track word track) i ≡ value_at p word i
    unbound_value (TruthConstant truth) unbound i lt = refl
    unbound_value (TruthSlot slot) unbound i lt =
        let less : slot < k = grind (arith, nat_tests) in
        ap (λ letter. truth_at letter slot) (with_track-letter word track i level lt)
        ∙ slot_further (letter_at word i) (truth_at track i ∷ []) slot (omega (arith, less, declared i lt))
    unbound_value (TruthNot p) unbound i lt = ap not (unbound_value p unbound i lt)
    unbound_value (TruthJoined connective operands) unbound i lt = joined_unbound connective operands unbound i lt (of_none connective)
    unbound_value (TruthShift direction p span) unbound i lt =
        ap (λ n. shifted direction n (value_at p (with_track word track)) i) (with_track-length word track level)
        ∙ shifted_within direction (length word) (value_at p (with_track word track)) (value_at p word) (unbound_value p unbound) i lt

    joined_unbound : (connective : Connective) (ps : PlainTruths) → some_names_bound k ps ≡ false → (i : ℕ) → i < length word → (so_far : Bool)
        → joined_values connective so_far ps (with_track word track) i ≡ joined_values connective so_far ps word i
    joined_unbound connective no_truths unbound i lt so_far = refl
    joined_unbound connective (truth_operand p ps) unbound i lt so_far =
        let parts = neither (names_bound k p) (some_names_bound k ps) unbound in
        ap (λ b. joined_values connective (joins connective so_far b) ps (with_track word track) i) (unbound_value p parts.0 i lt)
        ∙ joined_unbound connective ps parts.1 i lt (joins connective so_far (value_at p word i))

-- ---- one slot more of a quantifier

-- no listed shift looks at the slot of a quantifier
abbrev pub NoneBound : ℕ → List Shift → Type 0
NoneBound k all = (place : ℕ) (shift : Shift) → slice_get all place ≡ Some shift → names_bound k shift.operand ≡ false

module _ (k : ℕ) (all : List Shift) (deep : ℕ) (word other : Word) (s : Stands k all all deep word other) (unbound : NoneBound k all) (track : Track) (level : length track ≡ length word) where
  other_level : length track ≡ length other
  other_level = level ∙ sym s.level

  -- the letters of both words at an instant, with the track
  module _ (i : ℕ) (lt : i < length (with_track word track)) where
    in_word : i < length word
    in_word = omega (arith, lt, with_track-length word track level)

    longer : letter_at (with_track word track) i ≡ letter_at word i ++ truth_at track i ∷ []
    longer = with_track-letter word track i level in_word

    other_longer : letter_at (with_track other track) i ≡ letter_at other i ++ truth_at track i ∷ []
    other_longer = with_track-letter other track i other_level (omega (arith, in_word, s.level))

    placed_slots : (slot : ℕ) → truth_at (letter_at (with_track other track) i) (placed_slot k all slot) ≡ truth_at (letter_at (with_track word track) i) slot
    placed_slots slot =
        let width : k ≤ length (letter_at word i) = omega (arith, s.widths i in_word) in
        let wider : length (letter_at other i) ≡ length (letter_at word i) + length all = omega (arith, s.widths i in_word, s.other_widths i in_word) in
        ap (λ letter. truth_at letter (placed_slot k all slot)) other_longer
        ∙ placed_further k all (letter_at word i) (letter_at other i) (truth_at track i) slot width wider (s.slots i slot in_word) (cases_lt slot k)
        ∙ sym (ap (λ letter. truth_at letter slot) longer)

    value_stays : (place : ℕ) (shift : Shift) → slice_get all place ≡ Some shift → shift_value shift (with_track word track) i ≡ shift_value shift word i
    value_stays place shift there =
        unbound_value k word track level (λ j within. omega (arith, s.widths j within)) (TruthShift shift.direction shift.operand shift.span) (unbound place shift there) i in_word

    placed_values : (place : ℕ) (shift : Shift) → slice_get all place ≡ Some shift → truth_at (letter_at (with_track other track) i) (k + place) ≡ shift_value shift (with_track word track) i
    placed_values place shift there =
        let inside : k + place < length (letter_at other i) = omega (arith, s.other_widths i in_word, slice_get_within all place shift there) in
        ap (λ letter. truth_at letter (k + place)) other_longer
        ∙ slot_further (letter_at other i) (truth_at track i ∷ []) (k + place) inside
        ∙ s.values i place shift in_word there
        ∙ sym (value_stays place shift there)

    width_more : length (letter_at (with_track word track) i) ≡ k + suc deep
    width_more = ap length longer ∙ omega (arith, s.widths i in_word, length-append (letter_at word i) (truth_at track i ∷ []))

    other_width_more : length (letter_at (with_track other track) i) ≡ k + length all + suc deep
    other_width_more = ap length other_longer ∙ omega (arith, s.other_widths i in_word, length-append (letter_at other i) (truth_at track i ∷ []))

  pub one_quantifier_more : Stands k all all (suc deep) (with_track word track) (with_track other track)
  one_quantifier_more = record {
    level = with_track-length other track other_level ∙ s.level ∙ sym (with_track-length word track level);
    widths = width_more;
    other_widths = other_width_more;
    slots = λ i slot lt. placed_slots i lt slot;
    values = λ i place shift lt there. placed_values i lt place shift there;
  }

-- ---- forms and formulas

module _ (k : ℕ) (all : List Shift) (deep : ℕ) (word other : Word) (s : Stands k all all deep word other) (b e : ℕ) (begins : b ≤ e) (inside : e < length word) where
  here : (p : PlainTruth) → IsCovered all p → (i : ℕ) → i ≤ e → holds_at (placed k all p) other i ≡ value_at p word i
  here p covered i le = placed_value k all all [] (sym (append-nil all)) deep word other s i (omega (arith, le, inside)) p covered

  own_slot : (slot i : ℕ) → i ≤ e → truth_at (letter_at other i) (placed_slot k all slot) ≡ truth_at (letter_at word i) slot
  own_slot slot i le = s.slots i slot (omega (arith, le, inside))

  placed_basic_holds : (basic : PlainBasic) → FormIsCovered all (truth_in basic) → basic_holds (placed_basic k all basic) other b e ≡ basic_holds_by value_at basic word b e
  placed_basic_holds (BasicConstant truth) covered = refl
  placed_basic_holds (BasicBracketed bracket p) covered = bracket-same b e (holds_at (placed k all p) other) (value_at p word) (λ m lo hi. here p covered m hi) begins bracket
  placed_basic_holds (BasicSlen relation n) covered = refl
  placed_basic_holds (BasicCounted which p relation n) covered =
      ap (λ c. compares relation c n) (counted-same b e (holds_at (placed k all p) other) (value_at p word) (λ m lo hi. here p covered m hi) begins which)
  placed_basic_holds (BasicTrack direction p slot) covered =
      track-same b e (holds_at (placed k all p) other) (value_at p word) (holds_at (TruthSlot (placed_slot k all slot)) other) (value_at (TruthSlot slot) word)
      (λ m lo hi. here p covered m hi) (λ m lo hi. own_slot slot m hi) begins direction

module _ (k : ℕ) (all : List Shift) (unbound : NoneBound k all) where
  pub placed_holds : (core : CoreTree) → CoreIsCovered all core → (deep : ℕ) (word other : Word) → Stands k all all deep word other → (b e : ℕ) → b ≤ e → e < length word
      → core_holds (placed_core k all core) other b e ≡ expanded_holds core word b e
  placed_holds (CoreAtom basic span) covered deep word other s b e begins inside = placed_basic_holds k all deep word other s b e begins inside basic covered
  placed_holds (CoreNot d span) covered deep word other s b e begins inside = ap not (placed_holds d covered deep word other s b e begins inside)
  placed_holds (CoreJoined connective c d span) covered deep word other s b e begins inside =
      let one = placed_holds c covered.0 deep word other s b e begins inside in
      let two = placed_holds d covered.1 deep word other s b e begins inside in
      λ i. joins connective (one i) (two i)
  placed_holds (CoreChop c d span) covered deep word other s b e begins inside =
      some_between-same b e (λ m. core_holds (placed_core k all c) other b m && core_holds (placed_core k all d) other m e)
      (λ m. expanded_holds c word b m && expanded_holds d word m e)
      (λ m lo hi.
      let one = placed_holds c covered.0 deep word other s b m lo (omega (arith, hi, inside)) in
      let two = placed_holds d covered.1 deep word other s m e hi inside in
      λ i. one i && two i)
  placed_holds (CoreStar d span) covered deep word other s b e begins inside =
      star-same (core_holds (placed_core k all d) other) (expanded_holds d word) (e - b) b e
      (λ m n lo up hi. placed_holds d covered deep word other s m n up (omega (arith, hi, inside)))
  placed_holds (CoreExists d span) covered deep word other s b e begins inside =
      ap (λ n. some_track n (λ track. core_holds (placed_core k all d) (with_track other track) b e)) s.level
      ∙ some_track-same (length word) (λ track. core_holds (placed_core k all d) (with_track other track) b e) (λ track. expanded_holds d (with_track word track) b e)
      (λ track level.
      let longer : e < length (with_track word track) = omega (arith, inside, with_track-length word track level) in
      placed_holds d covered (suc deep) (with_track word track) (with_track other track) (one_quantifier_more k all deep word other s unbound track level) b e begins longer)

-- ---- tracks for the shifts, one by one

-- with no shift seen the word stands for itself
module _ (k : ℕ) (all : List Shift) (word : Word) (widths : (i : ℕ) → i < length word → length (letter_at word i) ≡ k) where
  slot_itself : (i slot : ℕ) → i < length word → (slot < k) ⊎ (k ≤ slot) → truth_at (letter_at word i) (placed_slot k all slot) ≡ truth_at (letter_at word i) slot
  slot_itself i slot lt (inl less) = ap (truth_at (letter_at word i)) (slot_stays k all slot less)
  slot_itself i slot lt (inr le) =
      no_slot (letter_at word i) (placed_slot k all slot) (omega (arith, le, widths i lt, slot_moves k all slot le))
      ∙ sym (no_slot (letter_at word i) slot (omega (arith, le, widths i lt)))

  pub first_stand : Stands k all [] 0 word word
  first_stand = record {
    level = refl;
    widths = λ i lt. omega (arith, widths i lt);
    other_widths = λ i lt. omega (arith, widths i lt);
    slots = λ i slot lt. slot_itself i slot lt (cases_lt slot k);
    values = λ i place shift lt there. absurd (omega (arith, slice_get_within [] place shift there));
  }

-- an element of a list with one more is one of the list, or the last
pub data OfMore (seen : List Shift) (shift : Shift) (place : ℕ) (found : Shift) : Type 0 where
  earlier : place < length seen → slice_get seen place ≡ Some found → OfMore seen shift place found
  the_last : place ≡ length seen → found ≡ shift → OfMore seen shift place found

of_further : (first : Shift) (seen : List Shift) (shift : Shift) (place : ℕ) (found : Shift) → OfMore seen shift place found → OfMore (first ∷ seen) shift (suc place) found
of_further first seen shift place found (earlier lt there) = earlier (omega (arith, lt)) there
of_further first seen shift place found (the_last is same) = the_last (ap suc is) same

pub of_more : (seen : List Shift) (shift : Shift) (place : ℕ) (found : Shift) → slice_get (seen ++ shift ∷ []) place ≡ Some found → OfMore seen shift place found
of_more [] shift zero found there = the_last refl (sym (ap (λ o. unwrap_or o shift) there))
of_more [] shift (suc place) found there = absurd (true≢false (sym (ap is_some there)))
of_more (first ∷ seen) shift zero found there = earlier (omega arith) there
of_more (first ∷ seen) shift (suc place) found there = of_further first seen shift place found (of_more seen shift place found there)

module _ (k : ℕ) (all seen rest : List Shift) (shift : Shift) (is : all ≡ seen ++ shift ∷ rest) (word other : Word) (s : Stands k all seen 0 word other)
    (track : Track) (level : length track ≡ length word) (follows : (i : ℕ) → i < length word → truth_at track i ≡ shift_value shift word i) where
  track_level : length track ≡ length other
  track_level = level ∙ sym s.level

  module _ (i : ℕ) (lt : i < length word) where
    grown : letter_at (with_track other track) i ≡ letter_at other i ++ truth_at track i ∷ []
    grown = with_track-letter other track i track_level (omega (arith, lt, s.level))

    grown_width : length (letter_at (with_track other track) i) ≡ k + length (seen ++ shift ∷ []) + 0
    grown_width = ap length grown ∙ omega (arith, s.other_widths i lt, length-append (letter_at other i) (truth_at track i ∷ []), length-append seen (shift ∷ []))

    grown_slot : (slot : ℕ) → (slot < k) ⊎ (k ≤ slot) → truth_at (letter_at (with_track other track) i) (placed_slot k all slot) ≡ truth_at (letter_at word i) slot
    grown_slot slot (inl less) =
        let within : placed_slot k all slot < length (letter_at other i) = omega (arith, less, s.other_widths i lt, slot_stays k all slot less) in
        ap (λ letter. truth_at letter (placed_slot k all slot)) grown
        ∙ slot_further (letter_at other i) (truth_at track i ∷ []) (placed_slot k all slot) within
        ∙ s.slots i slot lt
    grown_slot slot (inr le) =
        let listed : length all ≡ length seen + suc (length rest) = ap length is ∙ length-append seen (shift ∷ rest) in
        no_slot (letter_at (with_track other track) i) (placed_slot k all slot) (omega (arith, le, grown_width, listed, length-append seen (shift ∷ []), slot_moves k all slot le))
        ∙ sym (no_slot (letter_at word i) slot (omega (arith, le, s.widths i lt)))

    grown_value : (place : ℕ) (found : Shift) → OfMore seen shift place found → truth_at (letter_at (with_track other track) i) (k + place) ≡ shift_value found word i
    grown_value place found (earlier less there) =
        ap (λ letter. truth_at letter (k + place)) grown
        ∙ slot_further (letter_at other i) (truth_at track i ∷ []) (k + place) (omega (arith, less, s.other_widths i lt))
        ∙ s.values i place found lt there
    grown_value place found (the_last last same) =
        let end : k + place ≡ length (letter_at other i) = omega (arith, last, s.other_widths i lt) in
        ap (λ letter. truth_at letter (k + place)) grown
        ∙ ap (truth_at (letter_at other i ++ truth_at track i ∷ [])) end
        ∙ slot_behind (letter_at other i) [] (truth_at track i)
        ∙ follows i lt
        ∙ ap (λ listed. shift_value listed word i) (sym same)

  -- a track that is what the next shift is gives it its slot
  pub one_shift_more : Stands k all (seen ++ shift ∷ []) 0 word (with_track other track)
  one_shift_more = record {
    level = with_track-length other track track_level ∙ s.level;
    widths = s.widths;
    other_widths = grown_width;
    slots = λ i slot lt. grown_slot i lt slot (cases_lt slot k);
    values = λ i place found lt there. grown_value i lt place found (of_more seen shift place found there);
  }
