use Rattle.std.proofs.Common.{◌<◌, All, length, take}
use Rattle.dcv_certificate.specs.Ones.{AreRarer}
use Rattle.dcv_certificate.proofs.partition.Partition.rarer.Given as goal

abbrev pub invariant-loop-state : goal.invariant-loop-state
invariant-loop-state l = record {
  members : All (λ state. state < length l.self.blocks.items) l.part.items;
  so_far : AreRarer l.self.blocks.items l.self.sizes.items l.ones (take l.state-index l.candidates) l.part.items;
}
