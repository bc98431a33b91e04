use Rattle.std.proofs.Common.{◌≡◌, length}
use Rattle.dcv_certificate.proofs.Sizing.{SizesSoFar}
use Rattle.dcv_certificate.proofs.partition.sizes_of.Given as goal

abbrev pub invariant-loop-block : goal.invariant-loop-block
invariant-loop-block l = record {
  each : length l.sizes.items ≡ l.count;
  so_far : SizesSoFar l.blocks l.block-index l.sizes.items;
}
