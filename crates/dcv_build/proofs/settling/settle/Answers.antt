use Rattle.std.proofs.Common.{◌+◌, Err, length, sym, ap, subst, ◌∙◌, arith}
use Rattle.dcv_build.specs.Settled.{SettlesUpTo}
use Rattle.dcv_build.proofs.Settled.{settled_ok, settled_fault}
use Rattle.dcv_build.proofs.settling.settle.Goals as goal

pub returns-in-Ok : goal.returns-in-Ok
returns-in-Ok g c =
    let left = c.without_parts.ensures in
    settled_ok (g.M.Machine.machine c.args.machine.now) c.args.parts c.args.limits c.args.step c.without_parts.result left.states left.nodes c.args.extent _ c.explore.result c.explore.ensures c.in-Ok.is
    c.states-states.ensures.raw c.requires (omega arith) (omega arith) c.states-states.ensures.states
    (ap (λ n. c.args.parts + n) (c.len.ensures.len ∙ ap (λ a. length a.nodes) c.arena.ensures.arena))

pub returns-in-Err : goal.returns-in-Err
returns-in-Err g c =
    let machine = g.M.Machine.machine c.args.machine.now in
    let left = c.without_parts.ensures in
    subst (λ fault. SettlesUpTo c.args.extent machine c.args.parts c.args.limits c.args.step (Err fault)) (sym c.at_step.ensures)
    (settled_fault machine c.args.parts c.args.limits c.args.step c.without_parts.result left.states left.nodes c.args.extent c.explore.result c.explore.ensures c.in-Err.fault c.in-Err.is)
