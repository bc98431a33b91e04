use Rattle.dcv_cli.proofs.Common.{append-nil, append_assoc, puts_same}
use Rattle.dcv_cli.proofs.refused.Which.put_end.Goals as goal

pub returns-in-Second : goal.returns-in-Second
returns-in-Second g c = rw c.in-Second.is c.put-in-Second.ensures

pub returns-in-Number : goal.returns-in-Number
returns-in-Number g c = rw c.in-Number.is (puts_same _ _ _ _ c.put_pieces.ensures (simp (append_assoc, append-nil, c.as_bytes.ensures.value, c.format.ensures.text)))
