use Rattle.dcv_certify.proofs.Joins.{other_of_front, some_joined, all_apart}
use Rattle.dcv_certify.proofs.joined.first_joined.Goals as goal

pub returns-clause-some : goal.returns-clause-some
returns-clause-some c =
    let numbers = c.args.numbers.now in
    some_joined numbers c.args.states c.requires.states c.requires.own c.in_default.ensures.none c.least_other.result
    (other_of_front numbers c.args.states c.requires.states c.least_other.result c.least_other.ensures)

pub returns-clause-none : goal.returns-clause-none
returns-clause-none c =
    let numbers = c.args.numbers.now in
    all_apart numbers c.args.states c.requires.states c.requires.own c.in_default.ensures.none c.least_other.result
    (other_of_front numbers c.args.states c.requires.states c.least_other.result c.least_other.ensures)
