use Rattle.std.proofs.Common.{◌≡◌, map, drop}
use Rattle.dcv_core.specs.TruthViews.{plain_truth, truths_of}
use Rattle.dcv_tracks.specs.Shifting.{some_names_bound}
use Rattle.dcv_tracks.proofs.bound.+bound.Given as goal

-- what is left says what all of them do
abbrev pub invariant-has_bound_among-loop-truth : goal.invariant-has_bound_among-loop-truth
invariant-has_bound_among-loop-truth l =
    some_names_bound l.declared (truths_of (map plain_truth (drop l.truth-index l.truths))) ≡ some_names_bound l.declared (truths_of (map plain_truth l.truths))
