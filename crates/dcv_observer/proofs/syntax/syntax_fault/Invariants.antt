use Rattle.std.proofs.Common.{length}
use Rattle.dcv_lexer.specs.Lexicon.{lexicon_of}
use Rattle.dcv_observer.proofs.Faults.{IsWithin}
use Rattle.dcv_observer.proofs.syntax.syntax_fault.Given as goal

-- a sentence may begin with the items that were passed
abbrev pub invariant-loop-item : goal.invariant-loop-item
invariant-loop-item l = IsWithin (lexicon_of l.lexicon) l.grammar l.text l.reading l.items

abbrev pub decreases-loop-item : goal.decreases-loop-item
decreases-loop-item l = length l.items.lexer.rest.now
