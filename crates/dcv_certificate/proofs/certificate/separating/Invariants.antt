use Rattle.std.proofs.Common.{◌≡◌, ◌+◌, ◌-◌, ◌≤◌, length}
use Rattle.dcv_certificate.specs.Vertices.{raw_of}
use Rattle.dcv_certificate.specs.Separation.{pairs_together}
use Rattle.dcv_certificate.specs.Partition.{raw_in, Separates, HasFinished}
use Rattle.dcv_certificate.proofs.certificate.separating.Given as goal

abbrev pub invariant-loop-place : goal.invariant-loop-place
invariant-loop-place l = record {
  same : raw_in l.partition ≡ raw_of l.fn.vertices;
  place : l.place ≤ length l.partition.suffixes.items;
  separates : Separates (raw_of l.fn.vertices) l.partition;
  finished : HasFinished (raw_of l.fn.vertices) l.partition l.place;
}

abbrev pub decreases-loop-place : goal.decreases-loop-place
decreases-loop-place l = length l.partition.suffixes.items + pairs_together (length l.fn.vertices.rows.items) l.partition.blocks.items - l.place
