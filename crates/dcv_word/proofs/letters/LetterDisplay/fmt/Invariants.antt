use Rattle.std.proofs.Common.{map, take}
use Rattle.std.specs.Fmt.{HasWritten, IsPlainFormatter}
use Rattle.dcv_word.specs.TraceLine.{digit_of}
use Rattle.dcv_word.proofs.letters.LetterDisplay.fmt.Given as goal

-- the digits of the slots so far are written
abbrev pub invariant-loop-slot : goal.invariant-loop-slot
invariant-loop-slot g l =
    IsPlainFormatter l.initial.f → HasWritten g.W.Write.write_str_gives l.initial.f (map digit_of (take l.slot l.self)) l.f
