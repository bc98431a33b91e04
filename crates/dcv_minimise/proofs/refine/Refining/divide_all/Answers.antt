use Rattle.std.proofs.Common.{◌<◌, length, subst, arith}
use Rattle.std.specs.List.{All}
use Rattle.dcv_minimise.proofs.Falling.{falls}
use Rattle.dcv_minimise.proofs.WitnessFacts.{few_blocks}
use Rattle.dcv_minimise.proofs.refine.Refining.divide_all.Goals as goal

pub round-requires-clause-looked : goal.round-requires-clause-looked
round-requires-clause-looked c state letter inside size there = c.in_ok-self.ensures.each state (omega (arith, inside, c.states-states.ensures.states))

pub round-requires-clause-states : goal.round-requires-clause-states
round-requires-clause-states c = subst (λ count. All (λ state. state < count) c.in_ok-self.field-0.items) c.states-states.ensures.states c.in_ok-self.ensures.only

pub rounds-smaller : goal.rounds-smaller
rounds-smaller c =
    let raw = c.args.raw.now in
    let before = c.rounds.self in
    let after = c.round.new.self in
    let few = few_blocks raw after.partition.blocks.items after.partition.witness.items c.in_ok-round.ensures.refining.refined.witnessed in
    falls (length raw.rows) (length before.partition.witness.items) (length after.partition.witness.items) (length before.moved.items) (length after.moved.items)
    (c.moves_many.ensures c.rounds-test.true) few c.in_ok-round.ensures.no_fewer c.in_ok-round.ensures.more
