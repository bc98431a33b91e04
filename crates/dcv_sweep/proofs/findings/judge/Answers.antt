use Rattle.dcv_sweep.proofs.Judged.{judged}
use Rattle.dcv_sweep.proofs.findings.judge.Goals as goal

pub returns-clause-judgement : goal.returns-clause-judgement
returns-clause-judgement c k L of =
    judged c.tables_accept_the_same.ensures.accepts c.tables_have_the_states.ensures.states c.verdict_of_same_behaviours.ensures
    c.args.auto.now c.states.ensures.raw c.states.ensures.auto c.in_ok-verdict.verdict c.in_ok-verdict.ensures _ c.is_valid.ensures c.is_some.ensures c.states.ensures.states k L of
