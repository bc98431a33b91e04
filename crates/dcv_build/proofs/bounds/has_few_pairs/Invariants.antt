use Rattle.std.proofs.Common.{◌≤◌}
use Rattle.dcv_build.specs.Bounds.{ArePartsAt, HasNodesBefore}
use Rattle.dcv_build.proofs.bounds.has_few_pairs.Given as goal

abbrev pub invariant-loop-slot : goal.invariant-loop-slot
invariant-loop-slot l = record {
  ones : ArePartsAt l.first l.slot l.ones.keys;
  others : ArePartsAt l.second l.slot l.others.keys;
  nodes : HasNodesBefore l.first l.second l.slot l.most;
  within : l.most ≤ l.limit;
}
