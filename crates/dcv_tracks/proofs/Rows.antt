-- The row of a shift accepts a word with a track exactly where the track is what the shift is at each instant, since the shift's operand does not name the track's
-- slot.
use Rattle.std.proofs.Common.{◌≡◌, ℕ, zero, suc, ◌+◌, ◌-◌, ◌<◌, ◌≤◌, Bool, true, false, List, [], ◌∷◌, ◌++◌, ◌⊎◌, inl, inr, length, length-append, refl, sym, ap, subst, ◌∙◌, arith, true≢false}
use Rattle.std.specs.Prelude.{◌&&◌, not, nat_eq, nat_lt}
use Rattle.std.specs.Bool.{Decides}
use Rattle.std.proofs.lemmas.Bool.Decides.{nat_tests}
use Rattle.std.proofs.lemmas.List.{get_or_past}
use Rattle.dcv_word.specs.Behaviour.{Word}
use Rattle.dcv_language.specs.Operations.{with_track, iff}
use Rattle.dcv_logic.specs.Search.{each_between}
use Rattle.dcv_logic.specs.Track.{Track, truth_at}
use Rattle.dcv_logic.proofs.InWords.{each_between-every}
use Rattle.dcv_syntax.specs.declared.propositions.Direction.{Direction}
use Rattle.dcv_syntax.specs.declared.propositions.Direction.TheVariants.{Prior, Next}
use Rattle.dcv_core.specs.Core.{PlainTruth, TruthConstant, TruthSlot, TruthNot, TruthJoined, TruthShift, PlainTruths, no_truths, truth_operand, BasicTrack}
use Rattle.dcv_core.specs.Holds.{letter_at, truth_holds, joined_truths, holds_at, basic_holds}
use Rattle.dcv_logic.specs.Value.{shifted}
use Rattle.dcv_logic.specs.Connectives.{joins, of_none}
use Rattle.dcv_syntax.specs.declared.propositions.Connective.{Connective}
use Rattle.dcv_core.proofs.Tracks.{with_track-letter, slot_further, slot_behind}
use Rattle.dcv_core.proofs.Chops.{and-parts}

-- ---- a proposition that does not name a slot

abbrev mutual
  pub Avoids : ℕ → PlainTruth → Type 0
  Avoids slot (TruthConstant truth) = Unit {0}
  Avoids slot (TruthSlot other) = nat_eq other slot ≡ false
  Avoids slot (TruthNot p) = Avoids slot p
  Avoids slot (TruthJoined connective operands) = AllAvoid slot operands
  Avoids slot (TruthShift direction p span) = Unit {0}

  pub AllAvoid : ℕ → PlainTruths → Type 0
  AllAvoid slot no_truths = Unit {0}
  AllAvoid slot (truth_operand p operands) = Avoids slot p × AllAvoid slot operands

module _ (letter : List Bool) (truth : Bool) where
  slot_avoided : (other : ℕ) → nat_eq other (length letter) ≡ false → truth_at (letter ++ truth ∷ []) other ≡ truth_at letter other
  slot_avoided other is = elim (below_or_behind other is) [
    | inl below ↦ slot_further letter (truth ∷ []) other below
    | inr behind ↦ get_or_past (letter ++ truth ∷ []) other false (omega (arith, behind, length-append letter (truth ∷ []))) ∙ sym (get_or_past letter other false (omega (arith, behind)))
  ]
    where
      below_or_behind : (other : ℕ) → nat_eq other (length letter) ≡ false → (other < length letter) ⊎ (length letter < other)
      below_or_behind other is = grind (arith, nat_tests)

  mutual
    pub avoids_same : (p : PlainTruth) → Avoids (length letter) p → truth_holds p (letter ++ truth ∷ []) ≡ truth_holds p letter
    avoids_same (TruthConstant constant) a = refl
    avoids_same (TruthSlot slot) a = slot_avoided slot a
    avoids_same (TruthNot p) a = ap not (avoids_same p a)
    avoids_same (TruthJoined connective operands) a = joined_avoid_same connective (of_none connective) operands a
    avoids_same (TruthShift direction p span) a = refl

    joined_avoid_same : (connective : Connective) (so_far : Bool) (operands : PlainTruths) → AllAvoid (length letter) operands
        → joined_truths connective so_far operands (letter ++ truth ∷ []) ≡ joined_truths connective so_far operands letter
    joined_avoid_same connective so_far no_truths a = refl
    joined_avoid_same connective so_far (truth_operand p operands) a =
        ap (λ b. joined_truths connective (joins connective so_far b) operands (letter ++ truth ∷ [])) (avoids_same p a.0)
        ∙ joined_avoid_same connective (joins connective so_far (truth_holds p letter)) operands a.1

-- ---- tests

iff_equal : (a b : Bool) → iff a b ≡ true → a ≡ b
iff_equal true b is = sym is
iff_equal false false is = refl
iff_equal false true is = absurd (true≢false (sym is))

equal_iff : (a b : Bool) → a ≡ b → iff a b ≡ true
equal_iff true b is = sym is
equal_iff false b is = ap not (sym is)

not_only : (a : Bool) → not a ≡ true → a ≡ false
not_only true is = absurd (true≢false (sym is))
not_only false is = refl

earlier_there : (i : ℕ) (b : Bool) → 0 < i → (nat_lt 0 i && b) ≡ b
earlier_there i b more =
    let there : nat_lt 0 i ≡ true = grind (arith, nat_tests) in
    ap (λ t. t && b) there

later_there : (i n : ℕ) (b : Bool) → i + 1 < n → (nat_lt (i + 1) n && b) ≡ b
later_there i n b more =
    let there : nat_lt (i + 1) n ≡ true = grind (arith, nat_tests) in
    ap (λ t. t && b) there

none_later : (i n : ℕ) (b : Bool) → n ≤ i + 1 → (nat_lt (i + 1) n && b) ≡ false
none_later i n b last =
    let none : nat_lt (i + 1) n ≡ false = grind (arith, nat_tests) in
    ap (λ t. t && b) none

later_or_last : (i n : ℕ) → i < n → (i + 1 < n) ⊎ (i ≡ n - 1)
later_or_last i n lt = grind arith

-- ---- the rows

module _ (p : PlainTruth) (slot : ℕ) (avoids : Avoids slot p) (word : Word) (some : 0 < length word) (widths : (i : ℕ) → i < length word → length (letter_at word i) ≡ slot)
    (track : Track) (level : length track ≡ length word) where
  slot_here : (i : ℕ) → i < length word → holds_at (TruthSlot slot) (with_track word track) i ≡ truth_at track i
  slot_here i lt =
      ap (λ letter. truth_at letter slot) (with_track-letter word track i level lt)
      ∙ ap (truth_at (letter_at word i ++ truth_at track i ∷ [])) (sym (widths i lt))
      ∙ slot_behind (letter_at word i) [] (truth_at track i)

  operand_here : (i : ℕ) → i < length word → holds_at p (with_track word track) i ≡ truth_holds p (letter_at word i)
  operand_here i lt =
      ap (truth_holds p) (with_track-letter word track i level lt)
      ∙ avoids_same (letter_at word i) (truth_at track i) p (subst (λ width. Avoids width p) (sym (widths i lt)) avoids)

  abbrev Follows : Direction → Type 0
  Follows direction = (i : ℕ) → i < length word → truth_at track i ≡ shifted direction (length word) (λ j. truth_holds p (letter_at word j)) i

  -- what the rows ask at each instant but the first
  abbrev back_test : ℕ → Bool
  back_test = λ i. iff (holds_at (TruthSlot slot) (with_track word track) i) (holds_at p (with_track word track) (i - 1))

  abbrev fore_test : ℕ → Bool
  fore_test = λ i. iff (holds_at (TruthSlot slot) (with_track word track) (i - 1)) (holds_at p (with_track word track) i)

  back_parts : basic_holds (BasicTrack Prior p slot) (with_track word track) 0 (length word - 1) ≡ true
      → (not (holds_at (TruthSlot slot) (with_track word track) 0) ≡ true) × (each_between 1 (length word - 1) back_test ≡ true)
  back_parts is = and-parts (not (holds_at (TruthSlot slot) (with_track word track) 0)) (each_between 1 (length word - 1) back_test) is

  fore_parts : basic_holds (BasicTrack Next p slot) (with_track word track) 0 (length word - 1) ≡ true
      → (not (holds_at (TruthSlot slot) (with_track word track) (length word - 1)) ≡ true) × (each_between 1 (length word - 1) fore_test ≡ true)
  fore_parts is = and-parts (not (holds_at (TruthSlot slot) (with_track word track) (length word - 1))) (each_between 1 (length word - 1) fore_test) is

  back_follows : basic_holds (BasicTrack Prior p slot) (with_track word track) 0 (length word - 1) ≡ true → Follows Prior
  back_follows is zero lt = sym (slot_here 0 lt) ∙ not_only (holds_at (TruthSlot slot) (with_track word track) 0) (back_parts is).0
  back_follows is (suc i) lt =
      let test = (each_between-every 1 (length word - 1) back_test).0 (back_parts is).1 (suc i) (omega arith) (omega (arith, lt)) in
      sym (slot_here (suc i) lt)
      ∙ iff_equal (holds_at (TruthSlot slot) (with_track word track) (suc i)) (holds_at p (with_track word track) (suc i - 1)) test
      ∙ operand_here (suc i - 1) (omega (arith, lt))
      ∙ sym (earlier_there (suc i) (truth_holds p (letter_at word (suc i - 1))) (omega arith))

  follows_back : Follows Prior → basic_holds (BasicTrack Prior p slot) (with_track word track) 0 (length word - 1) ≡ true
  follows_back follows =
      let first : not (holds_at (TruthSlot slot) (with_track word track) 0) ≡ true = ap not (slot_here 0 some ∙ follows 0 some) in
      let later = (each_between-every 1 (length word - 1) back_test).1 (λ m lo hi.
      let lt : m < length word = omega (arith, hi, some) in
      equal_iff (holds_at (TruthSlot slot) (with_track word track) m) (holds_at p (with_track word track) (m - 1))
      (slot_here m lt ∙ follows m lt ∙ earlier_there m (truth_holds p (letter_at word (m - 1))) (omega (arith, lo)) ∙ sym (operand_here (m - 1) (omega (arith, lt))))) in
      λ i. first i && later i

  fore_follows : basic_holds (BasicTrack Next p slot) (with_track word track) 0 (length word - 1) ≡ true → Follows Next
  fore_follows is i lt = elim (later_or_last i (length word) lt) [
    | inl more ↦
        let test = (each_between-every 1 (length word - 1) fore_test).0 (fore_parts is).1 (i + 1) (omega arith) (omega (arith, more)) in
        let back : i ≡ i + 1 - 1 = omega arith in
        sym (slot_here i lt)
        ∙ ap (holds_at (TruthSlot slot) (with_track word track)) back
        ∙ iff_equal (holds_at (TruthSlot slot) (with_track word track) (i + 1 - 1)) (holds_at p (with_track word track) (i + 1)) test
        ∙ operand_here (i + 1) more
        ∙ sym (later_there i (length word) (truth_holds p (letter_at word (i + 1))) more)
    | inr last ↦
        ap (truth_at track) last
        ∙ sym (slot_here (length word - 1) (omega (arith, some)))
        ∙ not_only (holds_at (TruthSlot slot) (with_track word track) (length word - 1)) (fore_parts is).0
        ∙ sym (none_later i (length word) (truth_holds p (letter_at word (i + 1))) (omega (arith, last)))
  ]

  follows_fore : Follows Next → basic_holds (BasicTrack Next p slot) (with_track word track) 0 (length word - 1) ≡ true
  follows_fore follows =
      let end : length word - 1 < length word = omega (arith, some) in
      let last : not (holds_at (TruthSlot slot) (with_track word track) (length word - 1)) ≡ true =
      ap not (slot_here (length word - 1) end ∙ follows (length word - 1) end ∙ none_later (length word - 1) (length word) (truth_holds p (letter_at word (length word - 1 + 1))) (omega arith)) in
      let earlier = (each_between-every 1 (length word - 1) fore_test).1 (λ m lo hi.
      let lt : m < length word = omega (arith, hi, some) in
      let before : m - 1 < length word = omega (arith, lt) in
      let on : m - 1 + 1 ≡ m = omega (arith, lo) in
      equal_iff (holds_at (TruthSlot slot) (with_track word track) (m - 1)) (holds_at p (with_track word track) m)
      (slot_here (m - 1) before
      ∙ follows (m - 1) before
      ∙ later_there (m - 1) (length word) (truth_holds p (letter_at word (m - 1 + 1))) (omega (arith, lo, lt))
      ∙ ap (λ j. truth_holds p (letter_at word j)) on
      ∙ sym (operand_here m lt))) in
      λ i. last i && earlier i

  pub row_follows : (direction : Direction) → Decides (basic_holds (BasicTrack direction p slot) (with_track word track) 0 (length word - 1)) (Follows direction)
  row_follows Next = (fore_follows, follows_fore)
  row_follows Prior = (back_follows, follows_back)
