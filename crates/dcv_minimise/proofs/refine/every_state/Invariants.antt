use Rattle.std.proofs.Common.{ℕ, ◌<◌, Contains}
use Rattle.std.specs.List.{All}
use Rattle.dcv_minimise.proofs.refine.every_state.Given as goal

abbrev pub invariant-loop-state : goal.invariant-loop-state
invariant-loop-state l = record {
  each : (state : ℕ) → state < l.state → Contains l.all.items state;
  only : All (λ state. state < l.states) l.all.items;
}
