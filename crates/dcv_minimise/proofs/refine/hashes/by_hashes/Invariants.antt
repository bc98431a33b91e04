use Rattle.dcv_minimise.specs.Rounds.{IsWitnessed, IsTold}
use Rattle.dcv_minimise.proofs.refine.hashes.by_hashes.Given as goal

abbrev pub invariant-loop-round : goal.invariant-loop-round
invariant-loop-round l = record {
  witnessed : IsWitnessed l.raw l.partition.blocks.items l.partition.witness.items;
  told : IsTold l.raw l.partition.blocks.items;
}
