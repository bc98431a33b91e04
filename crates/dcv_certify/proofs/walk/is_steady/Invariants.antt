use Rattle.std.specs.Prelude.{IsTrue}
use Rattle.dcv_certify.specs.Walk.{IsSteadyBefore}
use Rattle.dcv_certify.proofs.walk.is_steady.Given as goal

abbrev pub invariant-loop-entry : goal.invariant-loop-entry
invariant-loop-entry l = IsTrue l.steady → IsSteadyBefore l.column l.entry
