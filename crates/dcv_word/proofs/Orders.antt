-- The orders of letters and of words.
use Rattle.std.proofs.Common.{◌≡◌, ◌≢◌, ◌↔◌, ℕ, zero, suc, ◌+◌, ◌-◌, ◌*◌, ◌^◌, ◌<◌, ◌≤◌, Bool, true, false, cond, List, [], ◌∷◌, ◌++◌, length, refl, sym, ap, ◌∙◌, subst, arith}
use Rattle.std.proofs.lemmas.List.{length-append}
use Rattle.std.proofs.lemmas.Nat.{pow-add, shl_below}
use Rattle.std.specs.Cmp.{IsTotalOrder, tied_itself, nat_cmp_total, nat_cmp_is, ranks, then_total, on_total}
use Rattle.std.specs.Cmp.Lexicographic.{slice_cmp, lists_total}
use Rattle.std.specs.declared.cmp.Ordering.{Ordering}
use Rattle.std.specs.declared.cmp.Ordering.TheVariants.{Less, Equal, Greater}
use Rattle.std.specs.Ordering.{MatchOrdering, nat_cmp, bool_cmp, ordering_then}
use Rattle.dcv_word.specs.Letter.{bits_of, letter_order}
use Rattle.dcv_word.specs.LetterFacts.{letters_total}
use Rattle.dcv_word.specs.Word.{shortlex_order}
use Rattle.dcv_word.proofs.Bits.{bits_of-lt}

-- ---- two orders, one after the other

then_Equal : (r : Ordering) → ordering_then r Equal ≡ r
then_Equal Less = refl
then_Equal Equal = refl
then_Equal Greater = refl

then_assoc : (r s t : Ordering) → ordering_then (ordering_then r s) t ≡ ordering_then r (ordering_then s t)
then_assoc Less s t = refl
then_assoc Equal s t = refl
then_assoc Greater s t = refl

then_decided : (r s : Ordering) → r ≢ Equal → ordering_then r s ≡ r
then_decided Less s d = refl
then_decided Equal s d = absurd (d refl)
then_decided Greater s d = refl

both_Equal : (r s : Ordering) → ordering_then r s ≡ Equal → (r ≡ Equal) × (s ≡ Equal)
both_Equal Less s e = (e, cc)
both_Equal Equal s e = (refl, e)
both_Equal Greater s e = (e, cc)

-- ---- numbers

pub less : (x y : ℕ) → x < y → nat_cmp x y ≡ Less
less x y h = sym (nat_cmp_is x y Less h)

pub level : (x y : ℕ) → x ≡ y → nat_cmp x y ≡ Equal
level x y h = sym (nat_cmp_is x y Equal h)

greater : (x y : ℕ) → y < x → nat_cmp x y ≡ Greater
greater x y h = sym (nat_cmp_is x y Greater h)

-- what is added to both does not matter
shifted_by : (x y x' y' n : ℕ) (r : Ordering) → x' ≡ n + x → y' ≡ n + y → MatchOrdering r (x < y) (x ≡ y) (y < x) → MatchOrdering r (x' < y') (x' ≡ y') (y' < x')
shifted_by x y x' y' n Less p q h = omega arith
shifted_by x y x' y' n Equal p q h = omega arith
shifted_by x y x' y' n Greater p q h = omega arith

shifted : (x y x' y' n : ℕ) → x' ≡ n + x → y' ≡ n + y → nat_cmp x' y' ≡ nat_cmp x y
shifted x y x' y' n p q = sym (nat_cmp_is x' y' (nat_cmp x y) (shifted_by x y x' y' n (nat_cmp x y) p q (ranks x y)))

-- ---- letters, moved up to the high end of k bits

headed : (x y : Bool) (n a b : ℕ) → a < n → b < n → nat_cmp (cond x n 0 + a) (cond y n 0 + b) ≡ ordering_then (bool_cmp x y) (nat_cmp a b)
headed true true n a b h g = shifted a b (n + a) (n + b) n refl refl
headed true false n a b h g = greater (n + a) (0 + b) (omega arith)
headed false true n a b h g = less (0 + a) (n + b) (omega arith)
headed false false n a b h g = shifted a b (0 + a) (0 + b) 0 refl refl

top_bit : (k n : ℕ) → n ≤ k → 2 ^ n * 2 ^ (k - n) ≡ 2 ^ k
top_bit k n h = sym (pow-add 2 n (k - n)) ∙ ap (λ i. 2 ^ i) (omega arith)

scaled : (x : Bool) (k n a : ℕ) → n ≤ k → (cond x (2 ^ n) 0 + a) * 2 ^ (suc k - suc n) ≡ cond x (2 ^ k) 0 + a * 2 ^ (k - n)
scaled true k n a h =
    let e : suc k - suc n ≡ k - n = omega arith in
    rw e (omega (arith, top_bit k n h))
scaled false k n a h =
    let e : suc k - suc n ≡ k - n = omega arith in
    rw e (omega arith)

below_top : (k : ℕ) (values : List Bool) → length values ≤ k → bits_of values * 2 ^ (k - length values) < 2 ^ k
below_top k values h =
    let b = shl_below (bits_of values) (length values) (k - length values) (bits_of-lt values) in
    subst (λ i. bits_of values * 2 ^ (k - length values) < 2 ^ i) (omega arith) b

-- the empty letter before the others
none_first : (n m : ℕ) → ordering_then (nat_cmp (0 * m) n) Less ≡ Less
none_first n m = elim n as (λ n. ordering_then (nat_cmp (0 * m) n) Less ≡ Less) [
  | zero ↦ ap (λ r. ordering_then r Less) (level (0 * m) 0 (omega arith))
  | suc n ↦ ap (λ r. ordering_then r Less) (less (0 * m) (suc n) (omega arith))
]

none_last : (n m : ℕ) → ordering_then (nat_cmp n (0 * m)) Greater ≡ Greater
none_last n m = elim n as (λ n. ordering_then (nat_cmp n (0 * m)) Greater ≡ Greater) [
  | zero ↦ ap (λ r. ordering_then r Greater) (level 0 (0 * m) (omega arith))
  | suc n ↦ ap (λ r. ordering_then r Greater) (greater (suc n) (0 * m) (omega arith))
]

abbrev aligned : ℕ → List Bool → ℕ
aligned k letter = bits_of letter * 2 ^ (k - length letter)

pub letter_order-aligned : (k : ℕ) (a b : List Bool) → length a ≤ k → length b ≤ k → ordering_then (nat_cmp (aligned k a) (aligned k b)) (nat_cmp (length a) (length b)) ≡ letter_order a b
letter_order-aligned k [] [] h g = ap (λ r. ordering_then r Equal) (level (0 * 2 ^ (k - 0)) (0 * 2 ^ (k - 0)) refl)
letter_order-aligned k [] (y ∷ ys) h g = ap (ordering_then (nat_cmp (0 * 2 ^ (k - 0)) (aligned k (y ∷ ys)))) (less 0 (suc (length ys)) (omega arith)) ∙ none_first (aligned k (y ∷ ys)) (2 ^ (k - 0))
letter_order-aligned k (x ∷ xs) [] h g = ap (ordering_then (nat_cmp (aligned k (x ∷ xs)) (0 * 2 ^ (k - 0)))) (greater (suc (length xs)) 0 (omega arith)) ∙ none_last (aligned k (x ∷ xs)) (2 ^ (k - 0))
letter_order-aligned zero (x ∷ xs) (y ∷ ys) h g = absurd (omega arith)
letter_order-aligned (suc k) (x ∷ xs) (y ∷ ys) h g =
    let l : length xs ≤ k = omega arith in
    let m : length ys ≤ k = omega arith in
    let front = headed x y (2 ^ k) (aligned k xs) (aligned k ys) (below_top k xs l) (below_top k ys m) in
    let lengths = shifted (length xs) (length ys) (suc (length xs)) (suc (length ys)) 1 (omega arith) (omega arith) in
    rw (scaled x k (length xs) (bits_of xs) l, scaled y k (length ys) (bits_of ys) m, front, lengths)
    (then_assoc (bool_cmp x y) (nat_cmp (aligned k xs) (aligned k ys)) (nat_cmp (length xs) (length ys))
    ∙ ap (ordering_then (bool_cmp x y)) (letter_order-aligned k xs ys l m))

whole : (k : ℕ) (letter : List Bool) → k ≡ length letter → aligned k letter ≡ bits_of letter
whole k letter e =
    let none : k - length letter ≡ 0 = omega arith in
    rw none (omega arith)

pub letter_order-numbers : (a b : List Bool) → length a ≡ length b → letter_order a b ≡ nat_cmp (bits_of a) (bits_of b)
letter_order-numbers a b e =
    let k = length a in
    sym (letter_order-aligned k a b (omega arith) (omega arith))
    ∙ ap (ordering_then (nat_cmp (aligned k a) (aligned k b))) (level (length a) (length b) e)
    ∙ then_Equal (nat_cmp (aligned k a) (aligned k b))
    ∙ (λ i. nat_cmp (whole k a refl i) (whole k b e i))

-- ---- lists

module _ {X : Type 0} (R : X → X → Ordering) where
  pub slice_cmp-same : ((x y : X) → R x y ≡ Equal → x ≡ y) → (xs ys : List X) → slice_cmp R xs ys ≡ Equal → xs ≡ ys
  slice_cmp-same same [] [] e = refl
  slice_cmp-same same [] (y ∷ ys) e = cc
  slice_cmp-same same (x ∷ xs) [] e = cc
  slice_cmp-same same (x ∷ xs) (y ∷ ys) e =
      let both = both_Equal (R x y) (slice_cmp R xs ys) e in
      let head = same x y both.0 in
      let rest = slice_cmp-same same xs ys both.1 in
      λ i. head i ∷ rest i

  pub slice_cmp-append : (xs ys us vs : List X) → length xs ≡ length ys → slice_cmp R (xs ++ us) (ys ++ vs) ≡ ordering_then (slice_cmp R xs ys) (slice_cmp R us vs)
  slice_cmp-append [] [] us vs e = refl
  slice_cmp-append [] (y ∷ ys) us vs e = absurd (omega arith)
  slice_cmp-append (x ∷ xs) [] us vs e = absurd (omega arith)
  slice_cmp-append (x ∷ xs) (y ∷ ys) us vs e =
      ap (ordering_then (R x y)) (slice_cmp-append xs ys us vs (omega arith)) ∙ sym (then_assoc (R x y) (slice_cmp R xs ys) (slice_cmp R us vs))

  pub slice_cmp-front : IsTotalOrder R → (front us vs : List X) → slice_cmp R (front ++ us) (front ++ vs) ≡ slice_cmp R us vs
  slice_cmp-front o front us vs = slice_cmp-append front front us vs refl ∙ ap (λ r. ordering_then r (slice_cmp R us vs)) (tied_itself (lists_total o) front)

bools_same : (x y : Bool) → bool_cmp x y ≡ Equal → x ≡ y
bools_same true true e = refl
bools_same true false e = cc
bools_same false true e = cc
bools_same false false e = refl

pub letters_same : (a b : List Bool) → letter_order a b ≡ Equal → a ≡ b
letters_same = slice_cmp-same bool_cmp bools_same

pub letters_Equal : (a b : List Bool) → (letter_order a b ≡ Equal) ↔ (a ≡ b)
letters_Equal a b = (letters_same a b, λ e. subst (λ w. letter_order a w ≡ Equal) e (tied_itself letters_total a))

-- ---- words

pub shortlex_total : IsTotalOrder shortlex_order
shortlex_total = then_total (on_total length nat_cmp_total) (lists_total letters_total)

words_same : (u v : List (List Bool)) → shortlex_order u v ≡ Equal → u ≡ v
words_same u v e = slice_cmp-same letter_order letters_same u v (both_Equal (nat_cmp (length u) (length v)) (slice_cmp letter_order u v) e).1

pub words_Equal : (u v : List (List Bool)) → (shortlex_order u v ≡ Equal) ↔ (u ≡ v)
words_Equal u v = (words_same u v, λ e. subst (λ w. shortlex_order u w ≡ Equal) e (tied_itself shortlex_total u))

pub shortlex-shorter : (u v : List (List Bool)) → length u < length v → shortlex_order u v ≡ Less
shortlex-shorter u v h = ap (λ r. ordering_then r (slice_cmp letter_order u v)) (less (length u) (length v) h)

pub shortlex-level : (u v : List (List Bool)) → length u ≡ length v → shortlex_order u v ≡ slice_cmp letter_order u v
shortlex-level u v h = ap (λ r. ordering_then r (slice_cmp letter_order u v)) (level (length u) (length v) h)

pub shortlex-front : (front u v : List (List Bool)) → shortlex_order (front ++ u) (front ++ v) ≡ shortlex_order u v
shortlex-front front u v =
    let lengths = shifted (length u) (length v) (length (front ++ u)) (length (front ++ v)) (length front) (length-append front u) (length-append front v) in
    let letters = slice_cmp-front letter_order letters_total front u v in
    λ i. ordering_then (lengths i) (letters i)

pub shortlex-first : (front u v : List (List Bool)) (a b : List Bool) → a ≢ b → length u ≡ length v → shortlex_order (front ++ a ∷ u) (front ++ b ∷ v) ≡ letter_order a b
shortlex-first front u v a b d e =
    shortlex-front front (a ∷ u) (b ∷ v) ∙ shortlex-level (a ∷ u) (b ∷ v) (ap suc e) ∙ then_decided (letter_order a b) (slice_cmp letter_order u v) (λ t. d (letters_same a b t))

pub shortlex-ends : (u v x y : List (List Bool)) → length u ≡ length v → u ≢ v → length x ≡ length y → shortlex_order (u ++ x) (v ++ y) ≡ shortlex_order u v
shortlex-ends u v x y e d f =
    shortlex-level (u ++ x) (v ++ y) (omega (arith, length-append u x, length-append v y))
    ∙ slice_cmp-append letter_order u v x y e
    ∙ then_decided (slice_cmp letter_order u v) (slice_cmp letter_order x y) (λ t. d (slice_cmp-same letter_order letters_same u v t))
    ∙ sym (shortlex-level u v e)

-- Where the lengths decide, they still do, and where they are equal, the letters do.
shortlex-end_by : (u v end : List (List Bool)) (r : Ordering) → nat_cmp (length u) (length v) ≡ r → MatchOrdering r (length u < length v) (length u ≡ length v) (length v < length u)
    → ordering_then r (slice_cmp letter_order (u ++ end) (v ++ end)) ≡ ordering_then r (slice_cmp letter_order u v)
shortlex-end_by u v end Less e h = refl
shortlex-end_by u v end Equal e h =
    slice_cmp-append letter_order u v end end h ∙ ap (ordering_then (slice_cmp letter_order u v)) (tied_itself (lists_total letters_total) end) ∙ then_Equal (slice_cmp letter_order u v)
shortlex-end_by u v end Greater e h = refl

pub shortlex-end : (u v end : List (List Bool)) → shortlex_order (u ++ end) (v ++ end) ≡ shortlex_order u v
shortlex-end u v end =
    let r = nat_cmp (length u) (length v) in
    let lengths = shifted (length u) (length v) (length (u ++ end)) (length (v ++ end)) (length end) (length-append u end ∙ omega arith) (length-append v end ∙ omega arith) in
    ap (λ r. ordering_then r (slice_cmp letter_order (u ++ end) (v ++ end))) lengths ∙ shortlex-end_by u v end r refl (ranks (length u) (length v))
