use Rattle.std.proofs.Common.{◌≡◌, ◌+◌, min, take}
use Rattle.dcv_lexer.specs.Decimal.{value_of}
use Rattle.dcv_lexer.proofs.numbers.value_up_to.Given as goal

-- the value of the digits that were passed
abbrev pub invariant-loop-digit : goal.invariant-loop-digit
invariant-loop-digit l = l.value ≡ min (value_of (take l.digit-index l.digits)) (l.fn.largest + 1)
