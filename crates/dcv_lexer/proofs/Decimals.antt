-- The value of digits, digit by digit.
use Rattle.std.proofs.Common.{◌≡◌, ℕ, ◌+◌, ◌-◌, ◌*◌, ◌<◌, ◌≤◌, List, [], ◌∷◌, length, get_or, drop, sym, ap, ◌∙◌, arith, add-one, drop-cons}
use Rattle.std.specs.Prelude.{fold}
use Rattle.dcv_lexer.specs.Decimal.{with_digit, value_of}

-- more digits make no less
pub no_less : (value : ℕ) (digits : List ℕ) → value ≤ fold with_digit value digits
no_less value [] = omega arith
no_less value (digit ∷ digits) = let h = no_less (with_digit value digit) digits in omega arith

-- the digits after a value that was read
module _ (digits : List ℕ) (index value d : ℕ) (read : fold with_digit value (drop index digits) ≡ value_of digits) (lt : index < length digits) where
  behind : drop index digits ≡ get_or digits index d ∷ drop (index + 1) digits
  behind = rw (add-one, drop-cons digits index d)

  pub digit_read : fold with_digit (10 * value + (get_or digits index d - 48)) (drop (index + 1) digits) ≡ value_of digits
  digit_read = sym (ap (fold with_digit value) behind) ∙ read

  pub digit_within : 10 * value + (get_or digits index d - 48) ≤ value_of digits
  digit_within =
      let h = no_less (10 * value + (get_or digits index d - 48)) (drop (index + 1) digits) in
      let e = digit_read in
      omega arith
