-- Letters as numbers, slot by slot.
use Rattle.std.proofs.Common.{◌≡◌, ◌≢◌, ℕ, zero, suc, ◌+◌, ◌-◌, ◌*◌, ◌/◌, ◌%◌, ◌^◌, ◌<◌, ◌≤◌, ◌==◌, Bool, true, false, eqb, List, [], ◌∷◌, length, Some, slice_get, get_or, set, bit_and, refl, sym, ap, ◌∙◌, arith}
use Rattle.std.specs.Bool.{beq, Decides}
use Rattle.std.specs.Int.{bit_at}
use Rattle.std.specs.Cmp.{booleans_Decides}
use Rattle.std.specs.Cmp.Lexicographic.{pointwise, pointwise_decides}
use Rattle.std.proofs.Math.Nat.{pow-suc, mod-eq_of_lt}
use Rattle.std.proofs.Math.Pow.{pow-lt}
use Rattle.std.proofs.lemmas.Nat.Bits.{bit_at_cat_low, bit_at_cat_high, shr_and_one}
use Rattle.std.proofs.lemmas.Nat.{shl_whole}
use Rattle.std.proofs.lemmas.List.{length-set}
use borrow.Author.Tests.{eqb-true, eq-eqb}
use Rattle.dcv_word.specs.Letter.{letter_of, bits_of}
use Rattle.dcv_word.specs.LetterFacts.{length-letter_of, bits_of-letter_of}

pub double : (n : ℕ) → 2 ^ suc n ≡ 2 ^ n + 2 ^ n
double n = omega (arith, pow-suc 2 n)

pub bits_of-lt : (letter : List Bool) → bits_of letter < 2 ^ length letter
bits_of-lt [] = omega arith
bits_of-lt (true ∷ values) = omega (arith, bits_of-lt values, double (length values))
bits_of-lt (false ∷ values) = omega (arith, bits_of-lt values, double (length values))

-- a value as a digit, and what it is worth in a place
abbrev digit : Bool → ℕ
digit true = 1
digit false = 0

bits_of-cons : (value : Bool) (values : List Bool) → bits_of (value ∷ values) ≡ digit value * 2 ^ length values + bits_of values
bits_of-cons true values = omega arith
bits_of-cons false values = omega arith

-- what stands above the digits that a letter is made of does not matter
letter_of_low : (width k high low : ℕ) → width ≤ k → letter_of width (high * 2 ^ k + low) ≡ letter_of width low
letter_of_low zero k high low h = refl
letter_of_low (suc width) k high low h =
    let top = bit_at_cat_low high k low width (omega arith) in
    let rest = letter_of_low width k high low (omega arith) in
    rw (top, rest) refl

lowest_bit : (value : Bool) (n : ℕ) → n ≡ 0 → (bit_at (digit value) n == 1) ≡ value
lowest_bit true n e = rw e refl
lowest_bit false n e = rw e refl

pub letter_of-bits_of : (letter : List Bool) → letter_of (length letter) (bits_of letter) ≡ letter
letter_of-bits_of [] = refl
letter_of-bits_of (value ∷ values) =
    let n = length values in
    let top = ap (λ d. d == 1) (bit_at_cat_high (digit value) n (bits_of values) n (bits_of-lt values) (omega arith)) ∙ lowest_bit value (n - n) (omega arith) in
    let rest = letter_of_low n n (digit value) (bits_of values) (omega arith) ∙ letter_of-bits_of values in
    ap (letter_of (suc n)) (bits_of-cons value values) ∙ (λ i. top i ∷ rest i)

-- the value in a slot is the digit that stands as far from the other end
pub slice_get-letter_of : (width bits slot : ℕ) → slot < width → slice_get (letter_of width bits) slot ≡ Some (bit_at bits (width - 1 - slot) == 1)
slice_get-letter_of zero bits slot h = absurd (omega arith)
slice_get-letter_of (suc width) bits zero h = ap (λ k. Some (bit_at bits k == 1)) (omega arith)
slice_get-letter_of (suc width) bits (suc slot) h =
    slice_get-letter_of width bits slot (omega arith) ∙ ap (λ k. Some (bit_at bits k == 1)) (omega arith)

pub same_letter : (a b : List Bool) → Decides (pointwise beq a b) (a ≡ b)
same_letter = pointwise_decides booleans_Decides

-- ---- what a letter's fields say of it

pub width_of : (width bits : ℕ) (letter : List Bool) → letter_of width bits ≡ letter → width ≡ length letter
width_of width bits letter seen = sym (length-letter_of width bits) ∙ ap length seen

pub number_of : (width bits : ℕ) (letter : List Bool) → letter_of width bits ≡ letter → bits < 2 ^ width → bits ≡ bits_of letter
number_of width bits letter seen small = sym (bits_of-letter_of width bits small) ∙ ap bits_of seen

pub slot_of : (width bits slot : ℕ) (letter : List Bool) → letter_of width bits ≡ letter → slot < length letter → slice_get letter slot ≡ Some (eqb (bit_and (bits / 2 ^ (width - 1 - slot)) 1) 1)
slot_of width bits slot letter seen within =
    let inside : slot < width = omega (arith, width_of width bits letter seen) in
    ap (λ l. slice_get l slot) (sym seen)
    ∙ slice_get-letter_of width bits slot inside
    ∙ ap (λ d. Some (eqb d 1)) (sym (shr_and_one bits (width - 1 - slot)))

pub aligned_of : (width bits : ℕ) (letter : List Bool) → letter_of width bits ≡ letter → width ≤ 32 → bits < 2 ^ width → bits * 2 ^ (32 - width) % 2 ^ 64 ≡ bits_of letter * 2 ^ (32 - length letter)
aligned_of width bits letter seen h small =
    shl_whole bits width (32 - width) 64 small (omega arith)
    ∙ (λ i. number_of width bits letter seen small i * 2 ^ (32 - width_of width bits letter seen i))

-- of two letters, at one width the numbers tell whether they are the same, and else the widths do
pub bits_decide : (width bits width' bits' : ℕ) (a b : List Bool) → letter_of width bits ≡ a → letter_of width' bits' ≡ b → bits < 2 ^ width → bits' < 2 ^ width' → width ≡ width' → Decides (eqb bits bits') (a ≡ b)
bits_decide width bits width' bits' a b seen seen' small small' same = (
  λ t. sym seen ∙ (λ i. letter_of (same i) (eqb-true bits bits' t i)) ∙ seen',
  λ e. eq-eqb bits bits' (number_of width bits a seen small ∙ ap bits_of e ∙ sym (number_of width' bits' b seen' small')),
)

pub widths_decide : (width bits width' bits' : ℕ) (a b : List Bool) → letter_of width bits ≡ a → letter_of width' bits' ≡ b → width ≢ width' → Decides (eqb width width') (a ≡ b)
widths_decide width bits width' bits' a b seen seen' differ = (
  λ t. absurd (differ (eqb-true width width' t)),
  λ e. absurd (differ (width_of width bits a seen ∙ ap length e ∙ sym (width_of width' bits' b seen'))),
)

-- ---- a letter with another value in a slot

-- with true in place of false the number is greater by what the slot is worth
pub bits_of-set_true : (letter : List Bool) (slot : ℕ) → slot < length letter → get_or letter slot false ≡ false
    → bits_of (set letter slot true) ≡ bits_of letter + 2 ^ (length letter - 1 - slot)
bits_of-set_true [] slot h at = absurd (omega arith)
bits_of-set_true (value ∷ values) zero h at =
    let place : suc (length values) - 1 - 0 ≡ length values = omega arith in
    rw (at, place) (omega arith)
bits_of-set_true (value ∷ values) (suc slot) h at =
    let place : suc (length values) - 1 - suc slot ≡ length values - 1 - slot = omega arith in
    let rest = bits_of-set_true values slot (omega arith) at in
    rw (length-set values slot true, rest, place) (omega arith)

-- and with false in place of true as much less
pub bits_of-set_false : (letter : List Bool) (slot : ℕ) → slot < length letter → get_or letter slot false ≡ true
    → bits_of (set letter slot false) + 2 ^ (length letter - 1 - slot) ≡ bits_of letter
bits_of-set_false [] slot h at = absurd (omega arith)
bits_of-set_false (value ∷ values) zero h at =
    let place : suc (length values) - 1 - 0 ≡ length values = omega arith in
    rw (at, place) (omega arith)
bits_of-set_false (value ∷ values) (suc slot) h at =
    let place : suc (length values) - 1 - suc slot ≡ length values - 1 - slot = omega arith in
    let rest = bits_of-set_false values slot (omega arith) at in
    rw (length-set values slot false, place) (omega arith)

-- what a slot is worth, as it is computed
worth_of : (width slot : ℕ) → width ≤ 32 → slot < width → 1 * 2 ^ (width - 1 - slot) % 2 ^ 32 ≡ 2 ^ (width - 1 - slot)
worth_of width slot h within =
    let small : 1 * 2 ^ (width - 1 - slot) < 2 ^ 32 = let e : width - 1 - slot < 32 = omega arith in omega (arith, pow-lt e) in
    mod-eq_of_lt small ∙ omega arith

pub bits_raised : (width bits slot : ℕ) (letter : List Bool) → letter_of width bits ≡ letter → width ≤ 32 → bits < 2 ^ width → slot < length letter → get_or letter slot false ≡ false
    → bits + 1 * 2 ^ (width - 1 - slot) % 2 ^ 32 ≡ bits_of (set letter slot true)
bits_raised width bits slot letter seen h small within at =
    let same = width_of width bits letter seen in
    let worth = worth_of width slot h (omega arith) in
    (λ i. number_of width bits letter seen small i + (worth ∙ ap (λ n. 2 ^ (n - 1 - slot)) same) i) ∙ sym (bits_of-set_true letter slot within at)

pub bits_lowered : (width bits slot : ℕ) (letter : List Bool) → letter_of width bits ≡ letter → width ≤ 32 → bits < 2 ^ width → slot < length letter → get_or letter slot false ≡ true
    → bits_of (set letter slot false) + 1 * 2 ^ (width - 1 - slot) % 2 ^ 32 ≡ bits
bits_lowered width bits slot letter seen h small within at =
    let same = width_of width bits letter seen in
    let worth = worth_of width slot h (omega arith) in
    ap (λ n. bits_of (set letter slot false) + n) (worth ∙ ap (λ n. 2 ^ (n - 1 - slot)) same) ∙ bits_of-set_false letter slot within at ∙ sym (number_of width bits letter seen small)
