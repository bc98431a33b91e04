use Rattle.std.proofs.Common.{◌≡◌}
use Rattle.dcv_stuck.specs.Sink.{numbers_of}
use Rattle.dcv_stuck.proofs.sink.numbers_of.Given as goal

abbrev pub invariant-loop-state : goal.invariant-loop-state
invariant-loop-state l = l.numbers.items ≡ numbers_of l.raw l.state
