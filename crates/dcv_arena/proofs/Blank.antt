-- The letter of the number 0, which has no true value.
use Rattle.std.proofs.Common.{◌≡◌, ℕ, zero, suc, ◌==◌, false, get_or, refl, ap}
use Rattle.std.proofs.lemmas.Nat.Bits.{bit_at-zero}
use Rattle.dcv_word.specs.Letter.{letter_of}

pub no_values : (width slot : ℕ) → get_or (letter_of width 0) slot false ≡ false
no_values zero slot = refl
no_values (suc width) zero = ap (λ bit. bit == 1) (bit_at-zero width)
no_values (suc width) (suc slot) = no_values width slot
