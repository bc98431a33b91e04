use Rattle.std.proofs.Common.{length, arith}
use Rattle.dcv_certificate.proofs.Having.{has_below}
use Rattle.dcv_certificate.proofs.vertices.Vertices.with_flag.Goals as goal

pub returns-clause-states : goal.returns-clause-states
returns-clause-states c =
    has_below c.loop-state.states.items (length c.args.self.now.flags.items) (λ state h. c.loop-state.invariant.after state (omega (arith, h)))
