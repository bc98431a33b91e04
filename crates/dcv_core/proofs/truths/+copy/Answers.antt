use Rattle.std.proofs.Common.{ap, sym, ◌∙◌}
use Rattle.dcv_core.specs.Core.{TruthJoined}
use Rattle.dcv_core.specs.TruthViews.{truths_of}
use Rattle.dcv_core.proofs.TruthRows.{truth_joined, is_joined}
use Rattle.dcv_core.proofs.truths.+copy.Goals as goal

pub Truth::copy-returns-in_ok-copy_all-in-Joined : goal.Truth::copy-returns-in_ok-copy_all-in-Joined
Truth::copy-returns-in_ok-copy_all-in-Joined t c =
    let connective = c.in-Joined.connective in
    truth_joined connective c.in_ok-copy_all-in-Joined.field-0
    ∙ ap (λ ps. TruthJoined connective (truths_of ps)) c.in_ok-copy_all-in-Joined.ensures
    ∙ sym (is_joined _ _ c.in-Joined.is c.deref-in-Joined.ensures.value)
