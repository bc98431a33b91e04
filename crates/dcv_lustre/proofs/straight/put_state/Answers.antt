use Rattle.std.specs.Fmt.{digits}
use Rattle.dcv_lustre.proofs.straight.put_state.Goals as goal

pub returns : goal.returns
unfolding digits
returns g c = c.put_pieces.ensures
