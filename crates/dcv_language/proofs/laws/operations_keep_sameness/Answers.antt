use Rattle.dcv_language.proofs.Sameness.{outside_same, intersection_same, union_same, agreement_same, chop_same, star_same, projection_same}
use Rattle.dcv_language.proofs.laws.operations_keep_sameness.Goals as goal

pub returns-clause-outside : goal.returns-clause-outside
returns-clause-outside c = outside_same

pub returns-clause-intersection : goal.returns-clause-intersection
returns-clause-intersection c = intersection_same

pub returns-clause-union : goal.returns-clause-union
returns-clause-union c = union_same

pub returns-clause-agreement : goal.returns-clause-agreement
returns-clause-agreement c = agreement_same

pub returns-clause-chop : goal.returns-clause-chop
returns-clause-chop c = chop_same

pub returns-clause-star : goal.returns-clause-star
returns-clause-star c = star_same

pub returns-clause-projection : goal.returns-clause-projection
returns-clause-projection c = projection_same
