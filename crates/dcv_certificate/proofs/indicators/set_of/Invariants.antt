use Rattle.std.proofs.Common.{◌≡◌, ℕ, take, nat_eq}
use Rattle.indexmap.specs.IndexSet.{contains}
use Rattle.dcv_certificate.specs.Separation.{has}
use Rattle.dcv_certificate.proofs.indicators.set_of.Given as goal

abbrev pub invariant-loop-state : goal.invariant-loop-state
invariant-loop-state l = record {
  states_are : (state : ℕ) → contains nat_eq l.set state ≡ has (take l.state-index l.states) state;
}
