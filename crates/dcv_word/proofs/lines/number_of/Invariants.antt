use Rattle.std.proofs.Common.{◌≡◌, map, take}
use Rattle.dcv_word.specs.Letter.{bits_of}
use Rattle.dcv_word.proofs.Readings.{value_of}
use Rattle.dcv_word.proofs.lines.number_of.Given as goal

-- the number that the digits so far spell
abbrev pub invariant-loop-digit : goal.invariant-loop-digit
invariant-loop-digit l = l.number ≡ bits_of (map value_of (take l.digit-index l.digits))
