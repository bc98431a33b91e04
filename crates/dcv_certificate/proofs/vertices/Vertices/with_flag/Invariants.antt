use Rattle.std.proofs.Common.{◌≡◌, ℕ, ◌<◌, ◌≤◌, get_or, false}
use Rattle.std.specs.Bool.{beq}
use Rattle.dcv_certificate.specs.Separation.{has}
use Rattle.dcv_certificate.proofs.vertices.Vertices.with_flag.Given as goal

abbrev pub invariant-loop-state : goal.invariant-loop-state
invariant-loop-state l = record {
  before : (state : ℕ) → state < l.state → has l.states.items state ≡ beq (get_or l.self.flags.items state false) l.flag;
  after : (state : ℕ) → l.state ≤ state → has l.states.items state ≡ false;
}
