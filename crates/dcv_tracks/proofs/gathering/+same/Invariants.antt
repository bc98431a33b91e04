use Rattle.std.proofs.Common.{◌≡◌, length, map}
use Rattle.std.specs.Iterator.Adapters.{zip_first, zip_second}
use Rattle.std.specs.Slice.Iter.{iter_rest}
use Rattle.dcv_core.specs.TruthViews.{plain_truth, truths_of}
use Rattle.dcv_tracks.specs.Shifting.{same_truths}
use Rattle.dcv_tracks.proofs.gathering.+same.Given as goal

-- there are as many left of each, and these say what all of them do
abbrev pub invariant-same_all-loop-one : goal.invariant-same_all-loop-one
invariant-same_all-loop-one l = record {
  level : length (iter_rest (zip_first l.one-iterator)) ≡ length (iter_rest (zip_second l.one-iterator));
  left : same_truths (truths_of (map plain_truth (iter_rest (zip_first l.one-iterator)))) (truths_of (map plain_truth (iter_rest (zip_second l.one-iterator))))
      ≡ same_truths (truths_of (map plain_truth l.ones)) (truths_of (map plain_truth l.others));
}
