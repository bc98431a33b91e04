use Rattle.dcv_core.proofs.MadeSteps.{then_ok, chopped_round}
use Rattle.dcv_scope.proofs.expansion.Sight.chop_round.Goals as goal

pub returns : goal.returns
returns c = then_ok c.push-2.result c.push-2.ensures.ok (λ last. chopped_round c.in_ok-first.ensures.ok c.in_ok-second.ensures)
