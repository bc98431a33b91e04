-- What a number in decimal stands for.
use Rattle.std.specs.Prelude.{ℕ, ◌+◌, ◌-◌, ◌*◌, List, fold}

-- a digit is a byte from `0`, which is 48, to `9`
abbrev pub with_digit : ℕ → ℕ → ℕ
with_digit value digit = 10 * value + (digit - 48)

-- the value of the digits, of which the first may be 0
abbrev pub value_of : List ℕ → ℕ
value_of digits = fold with_digit 0 digits
