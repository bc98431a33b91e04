use Rattle.dcv_certificate.proofs.AccessWords.{SpelledSoFar}
use Rattle.dcv_certificate.proofs.access.spellings.Given as goal

abbrev pub invariant-loop-one : goal.invariant-loop-one
invariant-loop-one l = SpelledSoFar l.states l.one-index l.found l.access.items
