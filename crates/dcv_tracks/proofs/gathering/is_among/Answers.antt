use Rattle.std.proofs.Common.{rules, tests, ◌∙◌}
use Rattle.std.proofs.lemmas.Iterator.{YieldsList-from_slice}
use Rattle.std.proofs.lemmas.Iterator.Search.{any_from_yields_List}
use Rattle.dcv_tracks.specs.declared.gathering.Shift.{Shift}
use Rattle.dcv_tracks.specs.Shifting.{same_shift}
use Rattle.dcv_tracks.specs.ShiftViews.{plain_shift}
use Rattle.dcv_tracks.proofs.GoalSteps.{any_of_all}
use Rattle.dcv_tracks.proofs.gathering.is_among.Goals as goal

pub returns : goal.returns
returns c =
    let test = same_shift (plain_shift c.args.shift.now) in
    any_from_yields_List (λ (seen : Shift). test (plain_shift seen)) _ _ _ c.any.ensures.ran (YieldsList-from_slice c.args.shifts.now cc) (λ x b q k. search (rules, tests))
    ∙ any_of_all plain_shift test c.args.shifts.now
