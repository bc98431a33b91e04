use Rattle.std.proofs.Common.{length}
use Rattle.dcv_lexer.proofs.Lexers.{HasPassed}
use Rattle.dcv_lexer.proofs.reading.LexerIterator.next.Given as goal

-- only white space and comments were passed
abbrev pub invariant-loop-front : goal.invariant-loop-front
invariant-loop-front l = HasPassed l.initial.self l.self

abbrev pub decreases-loop-front : goal.decreases-loop-front
decreases-loop-front l = length l.self.rest.now
