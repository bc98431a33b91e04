use Rattle.dcv_implies.proofs.Included.{none_where_included, included_both_ways}
use Rattle.dcv_implies.proofs.laws.none_is_inclusion.Goals as goal

pub returns-clause-none : goal.returns-clause-none
returns-clause-none c = none_where_included

pub returns-clause-both : goal.returns-clause-both
returns-clause-both c = included_both_ways
