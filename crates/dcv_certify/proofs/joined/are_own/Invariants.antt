use Rattle.dcv_certify.specs.Joined.{AreOwnBefore}
use Rattle.dcv_certify.proofs.joined.are_own.Given as goal

abbrev pub invariant-loop-entry : goal.invariant-loop-entry
invariant-loop-entry l = AreOwnBefore l.numbers l.entry
