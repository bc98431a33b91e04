use Rattle.std.proofs.Common.{◌≡◌, true, rules, map, sym, ap, ◌∙◌}
use Rattle.std.specs.Prelude.{◌&&◌}
use Rattle.dcv_core.specs.TruthViews.{plain_truth, truths_of}
use Rattle.dcv_core.proofs.TruthRows.{is_joined}
use Rattle.dcv_tracks.specs.Shifting.{same_connective, same_truth, same_truths}
use Rattle.dcv_tracks.proofs.GoalSteps.{lengths_differ}
use Rattle.dcv_tracks.proofs.gathering.+same.Goals as goal

pub same_all-returns-then-ones-others : goal.same_all-returns-then-ones-others
same_all-returns-then-ones-others t c = lengths_differ c.args.ones.now c.args.others.now c.if-ones-others.true

pub same-returns-then-eq : goal.same-returns-then-eq
same-returns-then-eq t c =
    let one = is_joined _ _ c.in-Joined-Joined.is-0 c.deref-then-eq.ensures.value in
    let other = is_joined _ _ c.in-Joined-Joined.is-1 c.deref-then-eq-2.ensures.value in
    let test : true ≡ same_connective c.in-Joined-Joined.one c.in-Joined-Joined.other = search (rules) in
    c.same_all.ensures
    ∙ ap (λ test. test && same_truths (truths_of (map plain_truth c.deref-then-eq.result.now)) (truths_of (map plain_truth c.deref-then-eq-2.result.now))) test
    ∙ sym (λ i. same_truth (one i) (other i))
