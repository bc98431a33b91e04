use Rattle.std.proofs.Common.{◌≡◌, length}
use Rattle.dcv_minimise.specs.Hashes.{AreHashes}
use Rattle.dcv_minimise.proofs.refine.hashes.hashes_of.Given as goal

abbrev pub invariant-loop-place : goal.invariant-loop-place
invariant-loop-place l = record {
  each : length l.hashes.items ≡ l.place;
  hashes : AreHashes l.arena l.blocks l.hashes.items;
}
