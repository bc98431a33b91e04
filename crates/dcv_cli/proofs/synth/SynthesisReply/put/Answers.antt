use Rattle.dcv_cli.proofs.Common.{puts_both}
use Rattle.dcv_cli.proofs.synth.SynthesisReply.put.Goals as goal

pub returns-in-Controller : goal.returns-in-Controller
returns-in-Controller g c = rw c.in-Controller.is (puts_both _ _ _ _ _ c.put.ensures c.put-in-Controller.ensures)

pub returns-in-Strategy : goal.returns-in-Strategy
returns-in-Strategy g c = rw c.in-Strategy.is c.put_strategy.ensures
