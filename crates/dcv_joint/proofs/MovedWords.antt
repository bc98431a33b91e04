-- A moved core holds on a word exactly where the core holds on another, letter by letter of which each slot has the truth that it has where it goes.
use Rattle.std.proofs.Common.{◌≡◌, ℕ, zero, suc, ◌+◌, ◌-◌, ◌<◌, ◌≤◌, Bool, not, List, [], ◌∷◌, ◌++◌, ◌⊎◌, inl, inr, length, refl, sym, ap, subst, ◌∙◌, arith, length-append}
use Rattle.std.specs.Prelude.{◌&&◌}
use Rattle.std.proofs.lemmas.List.{get_or_past}
use Rattle.dcv_word.specs.Behaviour.{Word}
use Rattle.dcv_language.specs.Operations.{with_track, some_track}
use Rattle.dcv_logic.specs.Connectives.{joins, of_none, bracket_holds, counted, star}
use Rattle.dcv_logic.specs.Satisfaction.{compares}
use Rattle.dcv_logic.specs.Search.{some_between}
use Rattle.dcv_logic.specs.Track.{Track, truth_at}
use Rattle.dcv_syntax.specs.declared.propositions.Connective.{Connective}
use Rattle.dcv_core.specs.Core.{PlainTruth, TruthConstant, TruthSlot, TruthNot, TruthJoined, TruthShift, PlainTruths, no_truths, truth_operand}
use Rattle.dcv_core.specs.Core.{PlainBasic, BasicConstant, BasicBracketed, BasicSlen, BasicCounted, BasicTrack}
use Rattle.dcv_core.specs.Core.{CoreTree, CoreAtom, CoreNot, CoreJoined, CoreChop, CoreStar, CoreExists}
use Rattle.dcv_core.specs.Holds.{letter_at, truth_holds, joined_truths, holds_at, track_holds, basic_holds, core_holds, words_of}
use Rattle.dcv_core.specs.Slots.{IsBelow, AreBelow, BasicIsBelow, CoreIsBelow}
use Rattle.dcv_core.proofs.Tracks.{slot_further, slot_behind}
use Rattle.dcv_joint.specs.Moved.{moved_slot, moved_slots, moved_truth, all_moved, moved_basic, moved_tree}

module _ (places : List ℕ) (width : ℕ) where
  -- each of so many slots has in one letter the truth that it has in the other where it goes
  abbrev pub Same : ℕ → List Bool → List Bool → Type 0
  Same slots wide letter = (slot : ℕ) → slot < slots → truth_at wide (moved_slot places width slot) ≡ truth_at letter slot

  -- so it is for the own names and so many quantifiers
  pub record Agree (deep : ℕ) (wide letter : List Bool) : Type 0 where
    pub wide_length : length wide ≡ width + deep
    pub own_length : length letter ≡ length places + deep
    pub truths : Same (length places + deep) wide letter

  abbrev pub AllAgree : ℕ → Word → Word → Type 0
  AllAgree deep [] [] = Unit {0}
  AllAgree deep (wide ∷ others) (letter ∷ letters) = Agree deep wide letter × AllAgree deep others letters
  AllAgree deep [] (letter ∷ letters) = ⊥
  AllAgree deep (wide ∷ others) [] = ⊥

  same_length : (deep : ℕ) (wide word : Word) → AllAgree deep wide word → length wide ≡ length word
  same_length deep [] [] agree = refl
  same_length deep (w ∷ wide) (l ∷ word) agree = ap suc (same_length deep wide word agree.1)
  same_length deep [] (l ∷ word) agree = absurd agree
  same_length deep (w ∷ wide) [] agree = absurd agree

  at_each : (deep : ℕ) (wide word : Word) → AllAgree deep wide word → (i : ℕ) → Same (length places + deep) (letter_at wide i) (letter_at word i)
  at_each deep [] [] agree i = λ slot lt. refl
  at_each deep (w ∷ wide) (l ∷ word) agree zero = agree.0.truths
  at_each deep (w ∷ wide) (l ∷ word) agree (suc i) = at_each deep wide word agree.1 i
  at_each deep [] (l ∷ word) agree i = absurd agree
  at_each deep (w ∷ wide) [] agree i = absurd agree

  -- ---- propositions

  module _ (slots : ℕ) (wide letter : List Bool) (same : Same slots wide letter) where
    mutual
      truth_moved : (p : PlainTruth) → IsBelow slots p → truth_holds (moved_truth places width p) wide ≡ truth_holds p letter
      truth_moved (TruthConstant truth) below = refl
      truth_moved (TruthSlot slot) below = same slot below
      truth_moved (TruthNot p) below = ap not (truth_moved p below)
      truth_moved (TruthJoined connective operands) below = joined_moved connective operands below (of_none connective)
      truth_moved (TruthShift direction p span) below = refl

      joined_moved : (connective : Connective) (ps : PlainTruths) → AreBelow slots ps → (so_far : Bool)
          → joined_truths connective so_far (all_moved places width ps) wide ≡ joined_truths connective so_far ps letter
      joined_moved connective no_truths below so_far = refl
      joined_moved connective (truth_operand p ps) below so_far =
          ap (λ b. joined_truths connective (joins connective so_far b) (all_moved places width ps) wide) (truth_moved p below.0)
          ∙ joined_moved connective ps below.1 (joins connective so_far (truth_holds p letter))

  -- ---- one quantifier more

  module _ (within : (slot : ℕ) → slot < length places → moved_slot places width slot < width) where
    module _ (deep : ℕ) (wide letter : List Bool) (truth : Bool) (agree : Agree deep wide letter) where
      past : (slot : ℕ) → length places ≤ slot → moved_slot places width slot ≡ width + (slot - length places)
      past slot le = get_or_past places slot (moved_slots places width slot) le

      moved_within : (slot : ℕ) → slot < length places + deep → (slot < length places) ⊎ (length places ≤ slot) → moved_slot places width slot < length wide
      moved_within slot lt (inl own) = omega (arith, within slot own, agree.wide_length)
      moved_within slot lt (inr le) = omega (arith, past slot le, lt, le, agree.wide_length)

      before : (slot : ℕ) → slot < length places + deep → truth_at (wide ++ truth ∷ []) (moved_slot places width slot) ≡ truth_at (letter ++ truth ∷ []) slot
      before slot lt =
          slot_further wide (truth ∷ []) (moved_slot places width slot) (moved_within slot lt (own_or_past slot (length places)))
          ∙ agree.truths slot lt
          ∙ sym (slot_further letter (truth ∷ []) slot (omega (arith, lt, agree.own_length)))
        where
          own_or_past : (m n : ℕ) → (m < n) ⊎ (n ≤ m)
          own_or_past m n = grind arith

      last : (slot : ℕ) → slot ≡ length places + deep → truth_at (wide ++ truth ∷ []) (moved_slot places width slot) ≡ truth_at (letter ++ truth ∷ []) slot
      last slot is =
          let there : moved_slot places width slot ≡ length wide = omega (arith, past slot (omega (arith, is)), is, agree.wide_length) in
          let own : slot ≡ length letter = omega (arith, is, agree.own_length) in
          ap (truth_at (wide ++ truth ∷ [])) there ∙ slot_behind wide [] truth ∙ sym (ap (truth_at (letter ++ truth ∷ [])) own ∙ slot_behind letter [] truth)

      each_slot : (slot : ℕ) → (slot < length places + deep) ⊎ (slot ≡ length places + deep) → truth_at (wide ++ truth ∷ []) (moved_slot places width slot) ≡ truth_at (letter ++ truth ∷ []) slot
      each_slot slot (inl lt) = before slot lt
      each_slot slot (inr is) = last slot is

      less_or_last : (slot : ℕ) → slot < length places + (deep + 1) → (slot < length places + deep) ⊎ (slot ≡ length places + deep)
      less_or_last slot lt = grind arith

      agree_further : Agree (deep + 1) (wide ++ truth ∷ []) (letter ++ truth ∷ [])
      agree_further = record {
        wide_length = omega (arith, length-append wide (truth ∷ []), agree.wide_length);
        own_length = omega (arith, length-append letter (truth ∷ []), agree.own_length);
        truths = λ slot lt. each_slot slot (less_or_last slot lt);
      }

    tracks_agree : (deep : ℕ) (wide word : Word) (track : Track) → AllAgree deep wide word → AllAgree (deep + 1) (with_track wide track) (with_track word track)
    tracks_agree deep [] [] track agree = tt
    tracks_agree deep (w ∷ wide) (l ∷ word) [] agree = tt
    tracks_agree deep (w ∷ wide) (l ∷ word) (truth ∷ track) agree = (agree_further deep w l truth agree.0, tracks_agree deep wide word track agree.1)
    tracks_agree deep [] (l ∷ word) track agree = absurd agree
    tracks_agree deep (w ∷ wide) [] track agree = absurd agree

    -- ---- cores

    module _ (deep : ℕ) (wide word : Word) (agree : AllAgree deep wide word) where
      at_instant : (p : PlainTruth) → IsBelow (length places + deep) p → (i : ℕ) → holds_at (moved_truth places width p) wide i ≡ holds_at p word i
      at_instant p below i = truth_moved (length places + deep) (letter_at wide i) (letter_at word i) (at_each deep wide word agree i) p below

      basic_moved : (basic : PlainBasic) → BasicIsBelow (length places + deep) basic → (b e : ℕ) → basic_holds (moved_basic places width basic) wide b e ≡ basic_holds basic word b e
      basic_moved (BasicConstant truth) below b e = refl
      basic_moved (BasicBracketed bracket p) below b e = λ j. bracket_holds bracket (λ i. at_instant p below i j) b e
      basic_moved (BasicSlen relation n) below b e = refl
      basic_moved (BasicCounted which p relation n) below b e = λ j. compares relation (counted which (λ i. at_instant p below i j) b e) n
      basic_moved (BasicTrack direction p slot) below b e = λ j. track_holds direction (λ i. at_instant (TruthSlot slot) below.1 i j) (λ i. at_instant p below.0 i j) b e

    tree_moved : (tree : CoreTree) (deep : ℕ) (wide word : Word) → CoreIsBelow (length places + deep) tree → AllAgree deep wide word
        → (b e : ℕ) → core_holds (moved_tree places width tree) wide b e ≡ core_holds tree word b e
    tree_moved (CoreAtom basic span) deep wide word below agree b e = basic_moved deep wide word agree basic below b e
    tree_moved (CoreNot d span) deep wide word below agree b e = ap not (tree_moved d deep wide word below agree b e)
    tree_moved (CoreJoined connective c d span) deep wide word below agree b e =
        let one = tree_moved c deep wide word below.0 agree b e in
        let two = tree_moved d deep wide word below.1 agree b e in
        λ j. joins connective (one j) (two j)
    tree_moved (CoreChop c d span) deep wide word below agree b e =
        let one = tree_moved c deep wide word below.0 agree in
        let two = tree_moved d deep wide word below.1 agree in
        λ j. some_between b e (λ m. one b m j && two m e j)
    tree_moved (CoreStar d span) deep wide word below agree b e =
        let one = tree_moved d deep wide word below agree in
        λ j. star (λ m k. one m k j) (e - b) b e
    tree_moved (CoreExists d span) deep wide word below agree b e =
        let deeper : length places + deep + 1 ≡ length places + (deep + 1) = omega arith in
        let inner = subst (λ n. CoreIsBelow n d) deeper below in
        let one = λ (track : Track). tree_moved d (deep + 1) (with_track wide track) (with_track word track) inner (tracks_agree deep wide word track agree) b e in
        λ j. some_track (same_length deep wide word agree j) (λ track. one track j)

    pub words_moved : (tree : CoreTree) (wide word : Word) → CoreIsBelow (length places) tree → AllAgree 0 wide word → words_of (moved_tree places width tree) wide ≡ words_of tree word
    words_moved tree [] [] below agree = refl
    words_moved tree (w ∷ wide) (l ∷ word) below agree =
        let all : length places ≡ length places + 0 = omega arith in
        tree_moved tree 0 (w ∷ wide) (l ∷ word) (subst (λ n. CoreIsBelow n tree) all below) agree 0 (length wide)
        ∙ ap (core_holds tree (l ∷ word) 0) (same_length 0 wide word agree.1)
    words_moved tree [] (l ∷ word) below agree = absurd agree
    words_moved tree (w ∷ wide) [] below agree = absurd agree
