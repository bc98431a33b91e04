-- What the impls of `Letter` cite: a letter gives its number back, and the laws of its order.
use Rattle.std.specs.Prelude.{◌≡◌, ℕ, zero, suc, ◌+◌, ◌*◌, ◌%◌, ◌^◌, ◌<◌, ◌==◌, Bool, true, false, cond, List, length}
use Rattle.std.proofs.Common.{refl, sym, ap, ◌∙◌, arith}
use Rattle.std.specs.Bool.{beq}
use Rattle.std.specs.Cmp.{IsTotalOrder, IsPartialOrder, bool_cmp_total, partial_order_from_agreeing_total}
use Rattle.std.specs.Cmp.Lexicographic.{pointwise, lists_total, lists_ties}
use Rattle.std.specs.Int.{bit_at}
use Rattle.std.specs.Ordering.{is_eq, as_partial_cmp, eq_by_cmp, bool_cmp}
use Rattle.std.proofs.lemmas.Nat.Bits.{bit_at-lt}
use Rattle.std.proofs.lemmas.Nat.{mod-pow-add}
use Rattle.std.proofs.Math.Nat.{mod-eq_of_lt}
use Rattle.dcv_word.specs.Letter.{letter_of, bits_of, letter_order}

pub letters_total : IsTotalOrder letter_order
letters_total = lists_total bool_cmp_total

bools_tied : (x y : Bool) → beq x y ≡ eq_by_cmp bool_cmp x y
bools_tied true true = refl
bools_tied true false = refl
bools_tied false true = refl
bools_tied false false = refl

pub letters_tied : (a b : List Bool) → pointwise beq a b ≡ is_eq (letter_order a b)
letters_tied = lists_ties bool_cmp bools_tied

pub letters_partial_order : IsPartialOrder (pointwise beq) (as_partial_cmp letter_order)
letters_partial_order = partial_order_from_agreeing_total letter_order letters_total (λ x y. refl) letters_tied

pub length-letter_of : (width bits : ℕ) → length (letter_of width bits) ≡ width
length-letter_of zero bits = refl
length-letter_of (suc width) bits = ap suc (length-letter_of width bits)

-- a bit's worth, by the test that a letter has in its place
worth : (bit n : ℕ) → bit < 2 → cond (bit == 1) n 0 ≡ bit * n
worth zero n small = omega arith
worth (suc zero) n small = omega arith
worth (suc (suc bit)) n small = absurd (omega arith)

-- the number that the low bits make
bits_of-letter_of_mod : (width bits : ℕ) → bits_of (letter_of width bits) ≡ bits % 2 ^ width
bits_of-letter_of_mod zero bits = omega arith
bits_of-letter_of_mod (suc width) bits =
    let rest = bits_of-letter_of_mod width bits in
    let top = worth (bit_at bits width) (2 ^ width) (bit_at-lt bits width) in
    let split : bits % 2 ^ suc width ≡ bit_at bits width * 2 ^ width + bits % 2 ^ width = ap (λ n. bits % 2 ^ n) (omega arith) ∙ mod-pow-add bits 1 width in
    rw (length-letter_of width bits, rest, top) (sym split)

pub bits_of-letter_of : (width bits : ℕ) → bits < 2 ^ width → bits_of (letter_of width bits) ≡ bits
bits_of-letter_of width bits small = bits_of-letter_of_mod width bits ∙ mod-eq_of_lt small
