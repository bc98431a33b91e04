use Rattle.std.proofs.Common.{refl}
use Rattle.dcv_build.proofs.Moves.{noted}
use Rattle.dcv_build.proofs.building.note.Goals as goal

pub returns : goal.returns
returns c =
    noted c.args.core.now c.args.step c.span.result c.span.ensures c.args.states c.args.nodes c.args.counts.now.items _ _ refl refl refl c.in_ok-push.ensures.items
