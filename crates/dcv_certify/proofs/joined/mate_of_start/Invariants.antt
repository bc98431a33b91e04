use Rattle.dcv_certify.specs.Joined.{HasNoMate}
use Rattle.dcv_certify.proofs.joined.mate_of_start.Given as goal

abbrev pub invariant-loop-second : goal.invariant-loop-second
invariant-loop-second l = HasNoMate l.numbers l.states 0 l.second
