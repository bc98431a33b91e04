use Rattle.std.proofs.Common.{◌≡◌, ◌++◌, map, drop}
use Rattle.dcv_core.specs.TruthViews.{plain_truth}
use Rattle.dcv_core.proofs.truths.+copy.Given as goal

-- the copies so far and what is left are the whole
abbrev pub invariant-copy_all-loop-truth : goal.invariant-copy_all-loop-truth
invariant-copy_all-loop-truth l =
    map plain_truth l.copies.items ++ map plain_truth (drop l.truth-index l.truths) ≡ map plain_truth l.truths
