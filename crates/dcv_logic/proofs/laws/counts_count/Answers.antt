use Rattle.dcv_logic.proofs.InWords.{count_from-counts, count_between-counts}
use Rattle.dcv_logic.proofs.laws.counts_count.Goals as goal

pub returns-clause-from : goal.returns-clause-from
returns-clause-from c = count_from-counts

pub returns-clause-between : goal.returns-clause-between
returns-clause-between c = count_between-counts
