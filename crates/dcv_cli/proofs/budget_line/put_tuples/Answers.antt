-- The pieces are those of the line, in order.
use Rattle.dcv_cli.proofs.Common.{append-nil, append_assoc, puts_same}
use Rattle.dcv_cli.proofs.budget_line.put_tuples.Goals as goal

pub returns : goal.returns
returns g c = puts_same _ _ _ _ c.put_pieces.ensures (simp (append_assoc, append-nil, c.as_bytes.ensures.value, c.format.ensures.text))
