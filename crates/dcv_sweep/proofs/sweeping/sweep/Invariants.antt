use Rattle.dcv_sweep.specs.Counting.{IsSweptUpTo}
use Rattle.dcv_sweep.proofs.sweeping.sweep.Given as goal

-- so many formulas are drawn and counted
abbrev pub invariant-loop : goal.invariant-loop
invariant-loop l = IsSweptUpTo l.limits l.seed l.counter l.draw l.summary
