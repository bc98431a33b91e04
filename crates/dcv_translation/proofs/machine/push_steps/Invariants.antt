use Rattle.std.proofs.Common.{◌≡◌, ◌++◌, map}
use Rattle.dcv_translation.specs.UnderWay.{step_of}
use Rattle.dcv_translation.proofs.machine.push_steps.Given as goal

abbrev pub invariant-loop-symbol : goal.invariant-loop-symbol
invariant-loop-symbol l = l.steps.items ≡ l.fn.steps.items ++ map step_of (map (λ symbol. symbol.now) l.yielded)
