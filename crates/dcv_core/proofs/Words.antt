-- The words of each form: satisfaction on parts of a word is satisfaction on the whole of these parts.
use Rattle.std.proofs.Common.{◌≡◌, ℕ, zero, suc, ◌+◌, ◌-◌, ◌<◌, ◌≤◌, Bool, true, false, cond, not, List, [], ◌∷◌, length, take, drop, refl, sym, ap, ◌∙◌, arith, length-take, length-drop}
use Rattle.std.specs.Prelude.{◌||◌, ◌&&◌, ◌==◌, nat_lt}
use Rattle.std.specs.List.{list_all, count_by}
use Rattle.std.proofs.lemmas.List.{get_or-take, get_or-drop}
use Rattle.std.proofs.lemmas.List.Sums.{sum_by-cons}
use Rattle.std.proofs.lemmas.Bool.Decides.{nat_tests}
use Rattle.dcv_word.specs.Behaviour.{Word}
use Rattle.dcv_language.specs.Operations.{some_below, with_track, star_within, iff}
use Rattle.dcv_shifts.specs.Shifts.{goes_back, back, fore}
use Rattle.dcv_language.specs.Atoms.{all_but_last}
use Rattle.dcv_logic.specs.Search.{some_from, some_between, each_between, count_from, count_between}
use Rattle.dcv_logic.specs.Satisfaction.{compares}
use Rattle.dcv_logic.specs.Connectives.{star as star_of}
use Rattle.dcv_logic.proofs.Stars.{star_enough}
use Rattle.dcv_language.proofs.Behaviours.{some_track-same}
use Rattle.dcv_core.specs.Core.{PlainTruth, TruthSlot, BasicConstant, BasicBracketed, BasicSlen, BasicCounted, BasicTrack, CoreTree}
use Rattle.dcv_syntax.specs.declared.propositions.Connective.TheVariants.{And, Or, Iff}
use Rattle.dcv_syntax.specs.declared.propositions.Direction.TheVariants.{Prior, Next}
use Rattle.dcv_syntax.specs.declared.formulas.Bracket.TheVariants.{Point, Run, Every, Unit as TwoInstants}
use Rattle.dcv_syntax.specs.declared.formulas.Count.TheVariants.{Scount, Sdur}
use Rattle.dcv_core.specs.Holds.{letter_at, truth_holds, holds_at, basic_holds, core_holds, words_of}
use Rattle.dcv_core.specs.Laws.{WordsOfAtom, WordsOfNot, WordsOfJoined, WordsOfChop, WordsOfStar, WordsOfExists}
use Rattle.dcv_core.proofs.Tracks.{with_track-length}
use Rattle.dcv_core.proofs.Aligned.{star-beside}
use Rattle.dcv_core.proofs.Local.{SamePart, inner_part, local}

-- the whole of a nonempty word
whole : (core : CoreTree) (word : Word) → 0 < length word → words_of core word ≡ core_holds core word 0 (length word - 1)
whole core [] some = absurd (omega (arith, some))
whole core (letter ∷ letters) some = ap (core_holds core (letter ∷ letters) 0) (omega arith)

-- the front of a word up to an instant, and the rest from it on
front_same : (word : Word) (m : ℕ) → m < length word → SamePart word (take (suc m) word) 0 m 0 m
front_same word m lt = record {
  begins = omega arith;
  inside = lt;
  inside_other = omega (arith, lt, length-take (suc m) word);
  level = omega arith;
  letters = λ i i' lo hi beside.
      ap (letter_at word) (omega (arith, beside)) ∙ sym (get_or-take (suc m) word i' [] (omega (arith, hi, beside)));
}

rest_same : (word : Word) (m : ℕ) → m < length word → SamePart word (drop m word) m (length word - 1) 0 (length (drop m word) - 1)
rest_same word m lt = record {
  begins = omega (arith, lt);
  inside = omega (arith, lt);
  inside_other = omega (arith, lt, length-drop m word);
  level = omega (arith, lt, length-drop m word);
  letters = λ i i' lo hi beside. ap (letter_at word) (omega (arith, beside)) ∙ sym (get_or-drop m word i' []);
}

front_words : (core : CoreTree) (word : Word) (m : ℕ) → m < length word → core_holds core word 0 m ≡ words_of core (take (suc m) word)
front_words core word m lt =
    let last : length (take (suc m) word) - 1 ≡ m = omega (arith, lt, length-take (suc m) word) in
    local core word (take (suc m) word) 0 m 0 m (front_same word m lt)
    ∙ ap (core_holds core (take (suc m) word) 0) (sym last)
    ∙ sym (whole core (take (suc m) word) (omega (arith, lt, length-take (suc m) word)))

rest_words : (core : CoreTree) (word : Word) (m : ℕ) → m < length word → core_holds core word m (length word - 1) ≡ words_of core (drop m word)
rest_words core word m lt =
    local core word (drop m word) m (length word - 1) 0 (length (drop m word) - 1) (rest_same word m lt)
    ∙ sym (whole core (drop m word) (omega (arith, lt, length-drop m word)))

-- ---- not, connectives

pub words_of_not : WordsOfNot
words_of_not d span [] some = absurd (omega (arith, some))
words_of_not d span (letter ∷ letters) some = refl

pub words_of_joined : WordsOfJoined
words_of_joined connective c d span [] some = absurd (omega (arith, some))
words_of_joined And c d span (letter ∷ letters) some = refl
words_of_joined Or c d span (letter ∷ letters) some = refl
words_of_joined Iff c d span (letter ∷ letters) some = refl

-- ---- chop

pub some_from-below : (n i : ℕ) (p q : ℕ → Bool) → ((m : ℕ) → m < n → p (i + m) ≡ q m) → some_from i n p ≡ some_below n q
some_from-below zero i p q h = refl
some_from-below (suc n) i p q h =
    let head : p i ≡ q 0 = ap p (omega arith) ∙ h 0 (omega arith) in
    let rest : some_from (i + 1) n p ≡ some_below n (λ m. q (suc m)) =
    some_from-below n (i + 1) p (λ m. q (suc m)) (λ m lt. ap p (omega arith) ∙ h (suc m) (omega (arith, lt))) in
    λ j. head j || rest j

pub words_of_chop : WordsOfChop
words_of_chop c d span [] some = absurd (omega (arith, some))
words_of_chop c d span (letter ∷ letters) some =
    let word = letter ∷ letters in
    let holds : ℕ → Bool = λ m. core_holds c word 0 m && core_holds d word m (length letters) in
    let count : length letters + 1 - 0 ≡ length word = omega arith in
    let last : length letters ≡ length word - 1 = omega arith in
    ap (λ n. some_from 0 n holds) count
    ∙ some_from-below (length word) 0 holds (λ m. words_of c (take (suc m) word) && words_of d (drop m word))
    (λ m lt.
    let at : 0 + m ≡ m = omega arith in
    let one = front_words c word m lt in
    let two = rest_words d word m lt in
    ap holds at ∙ ap (λ e. core_holds c word 0 m && core_holds d word m e) last ∙ (λ i. one i && two i))

-- ---- star

star_words : (d : CoreTree) (n : ℕ) (word : Word) → 0 < length word → length word ≤ suc n → star_of (core_holds d word) n 0 (length word - 1) ≡ star_within n (words_of d) word
star_words d n [] some le = absurd (omega (arith, some))
star_words d zero (a ∷ []) some le = refl
star_words d (suc n) (a ∷ []) some le = refl
star_words d zero (a ∷ b ∷ word) some le = absurd (omega (arith, le))
star_words d (suc n) (a ∷ b ∷ letters) some le =
    let word = a ∷ b ∷ letters in
    let e = length word - 1 in
    let cut : ℕ → Bool = λ m. core_holds d word 0 m && star_of (core_holds d word) n m e in
    let later : (0 == e) ≡ false = grind (arith, nat_tests) in
    let count : e + 1 - (0 + 1) ≡ length (b ∷ letters) = omega arith in
    ap (λ t. t || some_between (0 + 1) e cut) later
    ∙ ap (λ k. some_from (0 + 1) k cut) count
    ∙ some_from-below (length (b ∷ letters)) (0 + 1) cut (λ m. words_of d (a ∷ take (suc m) (b ∷ letters)) && star_within n (words_of d) (drop m (b ∷ letters)))
    (λ m lt.
    let at : 0 + 1 + m ≡ suc m = omega arith in
    let inside : suc m < length word = omega (arith, lt) in
    let rest = drop m (b ∷ letters) in
    let same : SamePart word rest (suc m) e 0 (length rest - 1) = rest_same word (suc m) inside in
    let one = front_words d word (suc m) inside in
    let two : star_of (core_holds d word) n (suc m) e ≡ star_within n (words_of d) rest =
    star-beside (core_holds d word) (core_holds d rest) n (suc m) e 0 (length rest - 1) same.level
    (λ i k i' k' lo up hi beside_i beside_k. local d word rest i k i' k' (inner_part word rest (suc m) e 0 (length rest - 1) same i k i' k' lo up hi beside_i beside_k))
    ∙ star_words d n rest (omega (arith, lt, length-drop m (b ∷ letters))) (omega (arith, le, lt, length-drop m (b ∷ letters))) in
    ap cut at ∙ (λ i. one i && two i))

pub words_of_star : WordsOfStar
words_of_star d span [] some = absurd (omega (arith, some))
words_of_star d span (letter ∷ letters) some =
    let word = letter ∷ letters in
    let last : length letters ≡ length word - 1 = omega arith in
    star_enough (core_holds d word) (length letters - 0) (length word) 0 (length letters) (omega arith) (omega arith)
    ∙ ap (star_of (core_holds d word) (length word) 0) last
    ∙ star_words d (length word) word some (omega arith)

-- ---- exists

pub words_of_exists : WordsOfExists
words_of_exists d span [] some = absurd (omega (arith, some))
words_of_exists d span (letter ∷ letters) some =
    let word = letter ∷ letters in
    some_track-same (length word) (λ track. core_holds d (with_track word track) 0 (length letters)) (λ track. words_of d (with_track word track))
    (λ track level.
    let as_long = with_track-length word track level in
    ap (core_holds d (with_track word track) 0) (omega (arith, as_long))
    ∙ sym (whole d (with_track word track) (omega (arith, as_long))))

-- ---- atoms

-- a test of instants has at each what P has of the letter there
abbrev Follows : (List Bool → Bool) → Word → ℕ → (ℕ → Bool) → Type 0
Follows P word i p = (m : ℕ) → m < length word → p (i + m) ≡ P (letter_at word m)

later_follows : (P : List Bool → Bool) (letter : List Bool) (word : Word) (i : ℕ) (p : ℕ → Bool) → Follows P (letter ∷ word) i p → Follows P word (i + 1) p
later_follows P letter word i p h m lt = ap p (omega arith) ∙ h (suc m) (omega (arith, lt))

first_follows : (P : List Bool → Bool) (letter : List Bool) (word : Word) (i : ℕ) (p : ℕ → Bool) → Follows P (letter ∷ word) i p → p i ≡ P letter
first_follows P letter word i p h = ap p (omega arith) ∙ h 0 (omega arith)

not_or : (a b : Bool) → not (not a || b) ≡ (a && not b)
not_or true b = refl
not_or false b = refl

all_follow : (P : List Bool → Bool) (word : Word) (i : ℕ) (p : ℕ → Bool) → Follows P word i p → not (some_from i (length word) (λ m. not (p m))) ≡ list_all P word
all_follow P [] i p h = refl
all_follow P (letter ∷ word) i p h =
    not_or (p i) (some_from (i + 1) (length word) (λ m. not (p m)))
    ∙ (λ j. first_follows P letter word i p h j && all_follow P word (i + 1) p (later_follows P letter word i p h) j)

count_follows : (P : List Bool → Bool) (word : Word) (i : ℕ) (p : ℕ → Bool) → Follows P word i p → count_from i (length word) p ≡ count_by P word
count_follows P [] i p h = refl
count_follows P (letter ∷ word) i p h =
    (λ j. cond (first_follows P letter word i p h j) 1 0 + count_follows P word (i + 1) p (later_follows P letter word i p h) j)
    ∙ sym (sum_by-cons (λ l. cond (P l) 1 0) letter word)

but_last-length : (letter : List Bool) (word : Word) → length (all_but_last (letter ∷ word)) ≡ length word
but_last-length letter [] = refl
but_last-length letter (other ∷ word) = ap suc (but_last-length other word)

but_last-letter : (letter : List Bool) (word : Word) (m : ℕ) → m < length word → letter_at (all_but_last (letter ∷ word)) m ≡ letter_at (letter ∷ word) m
but_last-letter letter [] m lt = absurd (omega (arith, lt))
but_last-letter letter (other ∷ word) zero lt = refl
but_last-letter letter (other ∷ word) (suc m) lt = but_last-letter other word m (omega (arith, lt))

module _ (p : PlainTruth) (letter : List Bool) (letters : Word) where
  abbrev word : Word
  word = letter ∷ letters

  follows : Follows (truth_holds p) word 0 (holds_at p word)
  follows m lt = ap (holds_at p word) (omega arith)

  but_last_follows : Follows (truth_holds p) (all_but_last word) 0 (holds_at p word)
  but_last_follows m lt =
      ap (holds_at p word) (omega arith)
      ∙ ap (truth_holds p) (sym (but_last-letter letter letters m (omega (arith, lt, but_last-length letter letters))))

  every_words : each_between 0 (length letters) (holds_at p word) ≡ list_all (truth_holds p) word
  every_words =
      let count : length letters + 1 - 0 ≡ length word = omega arith in
      ap (λ n. not (some_from 0 n (λ m. not (holds_at p word m)))) count
      ∙ all_follow (truth_holds p) word 0 (holds_at p word) follows

  count_words : count_between 0 (length letters) (holds_at p word) ≡ count_by (truth_holds p) word
  count_words =
      let count : length letters + 1 - 0 ≡ length word = omega arith in
      ap (λ n. count_from 0 n (holds_at p word)) count
      ∙ count_follows (truth_holds p) word 0 (holds_at p word) follows

  but_last_count : count_from 0 (length letters - 0) (holds_at p word) ≡ count_by (truth_holds p) (all_but_last word)
  but_last_count =
      let count : length letters - 0 ≡ length (all_but_last word) = omega (arith, but_last-length letter letters) in
      ap (λ n. count_from 0 n (holds_at p word)) count
      ∙ count_follows (truth_holds p) (all_but_last word) 0 (holds_at p word) but_last_follows

  but_last_every : 0 < length letters → each_between 0 (length letters - 1) (holds_at p word) ≡ list_all (truth_holds p) (all_but_last word)
  but_last_every more =
      let count : length letters - 1 + 1 - 0 ≡ length (all_but_last word) = omega (arith, more, but_last-length letter letters) in
      ap (λ n. not (some_from 0 n (λ m. not (holds_at p word m)))) count
      ∙ all_follow (truth_holds p) (all_but_last word) 0 (holds_at p word) but_last_follows

-- what is told of each instant after the first, of it and of the one before
back_follows : (P T : List Bool → Bool) (before : List Bool) (word : Word) (i : ℕ) (q : ℕ → Bool)
    → ((m : ℕ) → m < length word → q (i + m) ≡ iff (T (letter_at word m)) (P (letter_at (before ∷ word) m)))
    → not (some_from i (length word) (λ m. not (q m))) ≡ goes_back P T before word
back_follows P T before [] i q h = refl
back_follows P T before (letter ∷ word) i q h =
    let first : q i ≡ iff (T letter) (P before) = ap q (omega arith) ∙ h 0 (omega arith) in
    let rest = back_follows P T letter word (i + 1) q (λ m lt. ap q (omega arith) ∙ h (suc m) (omega (arith, lt))) in
    not_or (q i) (some_from (i + 1) (length word) (λ m. not (q m))) ∙ (λ j. first j && rest j)

and_true : (b : Bool) → (b && true) ≡ b
and_true true = refl
and_true false = refl

exchanged : (a b c : Bool) → (a && (b && c)) ≡ (b && (a && c))
exchanged true b c = refl
exchanged false true c = refl
exchanged false false c = refl

fore_follows : (P T : List Bool → Bool) (letter : List Bool) (word : Word) (i : ℕ) (q : ℕ → Bool)
    → ((m : ℕ) → m < length word → q (i + m) ≡ iff (T (letter_at (letter ∷ word) m)) (P (letter_at word m)))
    → (not (T (letter_at (letter ∷ word) (length word))) && not (some_from i (length word) (λ m. not (q m)))) ≡ fore P T (letter ∷ word)
fore_follows P T letter [] i q h = and_true (not (T letter))
fore_follows P T letter (next ∷ word) i q h =
    let first : q i ≡ iff (T letter) (P next) = ap q (omega arith) ∙ h 0 (omega arith) in
    let last = not (T (letter_at (next ∷ word) (length word))) in
    let left = some_from (i + 1) (length word) (λ m. not (q m)) in
    let rest = fore_follows P T next word (i + 1) q (λ m lt. ap q (omega arith) ∙ h (suc m) (omega (arith, lt))) in
    ap (λ t. last && t) (not_or (q i) left)
    ∙ exchanged last (q i) (not left)
    ∙ (λ j. first j && rest j)

module _ (p : PlainTruth) (slot : ℕ) (letter : List Bool) (letters : Word) where
  abbrev whole_word : Word
  whole_word = letter ∷ letters

  abbrev own : ℕ → Bool
  own = holds_at (TruthSlot slot) whole_word

  count : length letters + 1 - (0 + 1) ≡ length letters
  count = omega arith

  back_words : basic_holds (BasicTrack Prior p slot) whole_word 0 (length letters) ≡ back (truth_holds p) (truth_holds (TruthSlot slot)) whole_word
  back_words =
      let q : ℕ → Bool = λ i. iff (own i) (holds_at p whole_word (i - 1)) in
      ap (λ n. not (own 0) && not (some_from (0 + 1) n (λ m. not (q m)))) count
      ∙ ap (λ t. not (own 0) && t) (back_follows (truth_holds p) (truth_holds (TruthSlot slot)) letter letters (0 + 1) q
      (λ m lt.
      let at : 0 + 1 + m ≡ suc m = omega arith in
      let before : suc m - 1 ≡ m = omega arith in
      ap q at ∙ ap (λ i. iff (own (suc m)) (holds_at p whole_word i)) before))

  fore_words : basic_holds (BasicTrack Next p slot) whole_word 0 (length letters) ≡ fore (truth_holds p) (truth_holds (TruthSlot slot)) whole_word
  fore_words =
      let q : ℕ → Bool = λ i. iff (own (i - 1)) (holds_at p whole_word i) in
      ap (λ n. not (own (length letters)) && not (some_from (0 + 1) n (λ m. not (q m)))) count
      ∙ fore_follows (truth_holds p) (truth_holds (TruthSlot slot)) letter letters (0 + 1) q
      (λ m lt.
      let at : 0 + 1 + m ≡ suc m = omega arith in
      let before : suc m - 1 ≡ m = omega arith in
      ap q at ∙ ap (λ i. iff (own i) (holds_at p whole_word (suc m))) before)

pub words_of_atom : WordsOfAtom
words_of_atom basic span [] some = absurd (omega (arith, some))
words_of_atom (BasicConstant truth) span (a ∷ word) some = refl
words_of_atom (BasicBracketed Point p) span (a ∷ []) some = refl
words_of_atom (BasicBracketed Point p) span (a ∷ b ∷ word) some =
    let later : (0 == length (b ∷ word)) ≡ false = grind (arith, nat_tests) in
    ap (λ t. t && truth_holds p a) later
words_of_atom (BasicBracketed Run p) span (a ∷ []) some = refl
words_of_atom (BasicBracketed Run p) span (a ∷ b ∷ word) some =
    let more : nat_lt 0 (length (b ∷ word)) ≡ true = grind (arith, nat_tests) in
    ap (λ t. t && each_between 0 (length (b ∷ word) - 1) (holds_at p (a ∷ b ∷ word))) more
    ∙ but_last_every p a (b ∷ word) (omega arith)
words_of_atom (BasicBracketed Every p) span (a ∷ word) some = every_words p a word
words_of_atom (BasicBracketed TwoInstants p) span (a ∷ []) some = refl
words_of_atom (BasicBracketed TwoInstants p) span (a ∷ b ∷ []) some = refl
words_of_atom (BasicBracketed TwoInstants p) span (a ∷ b ∷ c ∷ word) some =
    let other : (length (b ∷ c ∷ word) == 0 + 1) ≡ false = grind (arith, nat_tests) in
    ap (λ t. t && truth_holds p a) other
words_of_atom (BasicSlen relation n) span (a ∷ word) some = ap (λ c. compares relation c n) (omega (arith, but_last-length a word))
words_of_atom (BasicCounted Scount p relation n) span (a ∷ word) some = ap (λ c. compares relation c n) (count_words p a word)
words_of_atom (BasicCounted Sdur p relation n) span (a ∷ word) some = ap (λ c. compares relation c n) (but_last_count p a word)
words_of_atom (BasicTrack Prior p slot) span (a ∷ word) some = back_words p slot a word
words_of_atom (BasicTrack Next p slot) span (a ∷ word) some = fore_words p slot a word
