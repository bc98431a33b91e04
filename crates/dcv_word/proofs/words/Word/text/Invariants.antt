use Rattle.std.proofs.Common.{◌≡◌, take}
use Rattle.dcv_word.specs.TraceLine.{trace_text}
use Rattle.dcv_word.proofs.words.Word.text.Given as goal

-- the lines of the letters so far are written
abbrev pub invariant-loop-letter : goal.invariant-loop-letter
invariant-loop-letter l = l.text.items ≡ trace_text (take l.letter-index l.letter-items)
