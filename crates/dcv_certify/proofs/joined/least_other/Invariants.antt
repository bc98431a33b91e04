use Rattle.dcv_certify.specs.Joined.{IsLeastOther}
use Rattle.dcv_certify.proofs.joined.least_other.Given as goal

abbrev pub invariant-loop-entry : goal.invariant-loop-entry
invariant-loop-entry l = IsLeastOther l.numbers l.entry l.least
