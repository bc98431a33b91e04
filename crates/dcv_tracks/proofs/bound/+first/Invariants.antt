use Rattle.std.proofs.Common.{◌≡◌, map, drop}
use Rattle.dcv_core.specs.TruthViews.{plain_truth, truths_of}
use Rattle.dcv_tracks.specs.Shifting.{first_bound}
use Rattle.dcv_tracks.proofs.bound.+first.Given as goal

-- what is left says what all of them do
abbrev pub invariant-first_bound_among-loop-truth : goal.invariant-first_bound_among-loop-truth
invariant-first_bound_among-loop-truth l =
    first_bound l.declared (truths_of (map plain_truth (drop l.truth-index l.truths))) ≡ first_bound l.declared (truths_of (map plain_truth l.truths))
