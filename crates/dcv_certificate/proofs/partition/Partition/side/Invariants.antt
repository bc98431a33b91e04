use Rattle.std.proofs.Common.{◌+◌, All, length, take}
use Rattle.dcv_certificate.specs.Partition.{raw_in}
use Rattle.dcv_certificate.specs.Marks.{IsMarkFrom, IsSideOf}
use Rattle.dcv_certificate.proofs.partition.Partition.side.Given as goal

abbrev pub invariant-loop-state : goal.invariant-loop-state
invariant-loop-state l = record {
  refs : All (IsMarkFrom l.scratch (length (raw_in l.self).rows) (l.slot + 1)) l.side.items;
  so_far : IsSideOf l.scratch l.slot l.value (take l.state-index l.marks) l.side.items;
}
