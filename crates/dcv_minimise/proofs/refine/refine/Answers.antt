use Rattle.std.proofs.Common.{sym, subst, Vec, ℕ, Global, arith}
use Rattle.dcv_minimise.specs.Partition.{IsPartition}
use Rattle.dcv_minimise.proofs.RoundFacts.{is_partition_alone}
use Rattle.dcv_minimise.proofs.refine.refine.Goals as goal

-- where each state has a block of its own, no round may find more
pub returns-then-is_discrete : goal.returns-then-is_discrete
returns-then-is_discrete c =
    let raw = c.args.raw.now in
    let partition = c.in_ok-partition.partition in
    let all = c.is_discrete.ensures.all c.if-is_discrete.true in
    subst (λ (blocks : Vec ℕ Global). IsPartition raw blocks.items) (sym c.into_blocks.ensures)
    (is_partition_alone raw partition.blocks.items partition.witness.items (omega (arith, all, c.states.ensures.states)) c.in_ok-partition.ensures.witnessed c.in_ok-partition.ensures.told)
