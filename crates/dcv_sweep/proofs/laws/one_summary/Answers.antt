use Rattle.dcv_sweep.proofs.OneSummary.{one_summary}
use Rattle.dcv_sweep.proofs.laws.one_summary.Goals as goal

pub returns : goal.returns
returns c = one_summary c.one_step_is_over.ensures.within c.one_verdict.ensures c.one_canonical_table.ensures
