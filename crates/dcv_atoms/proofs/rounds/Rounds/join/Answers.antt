use Rattle.std.proofs.Common.{rules, ◌≡◌, ◌+◌, arith}
use Rattle.dcv_atoms.proofs.OneRound.{one_round}
use Rattle.dcv_atoms.proofs.rounds.Rounds.join.Goals as goal

-- of a new round there are no entries
pub apply-requires-clause-holds : goal.apply-requires-clause-holds
apply-requires-clause-holds c entry there same = absurd (omega (arith, c.self.invariant entry there, same))

pub invariant_of-self : goal.invariant_of-self
invariant_of-self c =
    let next : c.in-Some.next ≡ c.self.inside.next + 1 = search rules in
    one_round c.self.inside.next c.in-Some.next c.self.inside.memo c.apply.new.memo next c.self.invariant c.apply.ensures.remembered.others
