-- The pieces are those of the line, in order.
use Rattle.dcv_cli.proofs.Common.{append_assoc, puts_same}
use Rattle.dcv_cli.proofs.budget_line.put_product.Goals as goal

pub returns : goal.returns
returns g c = puts_same _ _ _ _ c.put_pieces.ensures (simp (append_assoc, c.word.ensures, c.as_bytes.ensures.value, c.format.ensures.text))
