use Rattle.std.proofs.Common.{arith}
use Rattle.std.proofs.lemmas.Grind.{common_steps}
use Rattle.dcv_io.proofs.Putting.{puts_more}
use Rattle.dcv_io.proofs.text.TextTarget.put.Goals as goal

pub returns-then-not-is_empty : goal.returns-then-not-is_empty
returns-then-not-is_empty c =
    rw (c.if-not-self.true, c.is_err-self.ensures.value) (puts_more c.args.self.now.bytes.items c.extend_from_slice.new.self.items c.args.bytes.now c.extend_from_slice.result (grind (arith, common_steps)) c.extend_from_slice.ensures.items)
