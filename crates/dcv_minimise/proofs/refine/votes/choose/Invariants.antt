use Rattle.std.proofs.Common.{◌≡◌, length}
use Rattle.dcv_minimise.specs.Listing.{IsChosen}
use Rattle.dcv_minimise.proofs.refine.votes.choose.Given as goal

abbrev pub invariant-loop-keyed : goal.invariant-loop-keyed
invariant-loop-keyed l = record {
  size : length l.witness ≡ length l.fn.witness;
  chosen : IsChosen l.blocks l.full l.fn.witness l.witness;
}
