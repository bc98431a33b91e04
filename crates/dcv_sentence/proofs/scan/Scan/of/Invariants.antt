use Rattle.std.proofs.Common.{length, map}
use Rattle.dcv_tokens.specs.Reading.{seen, Reads}
use Rattle.dcv_sentence.proofs.scan.Scan.of.Given as goal

-- the tokens that were read
abbrev pub invariant-loop-token : goal.invariant-loop-token
invariant-loop-token l = Reads l.initial.source (map seen l.tokens.items) l.source

abbrev pub decreases-loop-token : goal.decreases-loop-token
decreases-loop-token l = length l.source.lexer.rest.now
