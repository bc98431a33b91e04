use Rattle.std.proofs.Common.{take}
use Rattle.dcv_word.specs.TraceLine.{trace_text}
use Rattle.dcv_io.specs.Putting.{Puts}
use Rattle.dcv_print.proofs.verdict_lines.put_letters.Given as goal

-- the lines of the letters so far are put
abbrev pub invariant-loop-letter : goal.invariant-loop-letter
invariant-loop-letter g l = Puts (g.T.Target.standing l.fn.target) (g.T.Target.standing l.target) (trace_text (take l.letter-index l.letters))
