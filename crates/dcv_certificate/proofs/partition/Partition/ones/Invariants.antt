use Rattle.std.proofs.Common.{◌≡◌, ℕ, take}
use Rattle.dcv_certificate.specs.Marks.{marked}
use Rattle.dcv_certificate.specs.Ones.{is_one, AreCounted}
use Rattle.dcv_certificate.proofs.partition.Partition.ones.Given as goal

abbrev pub invariant-loop-state : goal.invariant-loop-state
invariant-loop-state l = record {
  so_far : (state : ℕ) → is_one l.ones state ≡ marked l.scratch (take l.state-index l.marks) l.letter state;
  counted : AreCounted l.self.blocks.items l.ones;
}
