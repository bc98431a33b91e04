use Rattle.std.proofs.Common.{rules, tests, ◌∙◌, length, ap}
use Rattle.std.specs.List.{position_or_len}
use Rattle.std.specs.Option.{unwrap_or}
use Rattle.std.proofs.lemmas.Iterator.{YieldsList-from_slice}
use Rattle.std.proofs.lemmas.Iterator.Search.{position_from_yields_List}
use Rattle.dcv_tracks.specs.declared.gathering.Shift.{Shift}
use Rattle.dcv_tracks.specs.Shifting.{same_shift}
use Rattle.dcv_tracks.specs.ShiftViews.{plain_shift}
use Rattle.dcv_tracks.proofs.GoalSteps.{place_of_all, place_or_length, place_within}
use Rattle.dcv_tracks.proofs.gathering.place_of.Goals as goal

pub returns-clause-place : goal.returns-clause-place
returns-clause-place c =
    let shifts = c.args.shifts.now in
    let test = same_shift (plain_shift c.args.shift.now) in
    let place = position_or_len (λ (seen : Shift). test (plain_shift seen)) shifts in
    c.unwrap_or.ensures
    ∙ ap (λ found. unwrap_or found (length shifts))
    (position_from_yields_List (λ (seen : Shift). test (plain_shift seen)) _ _ c.position-place.result c.position-place.ensures.ran (YieldsList-from_slice shifts cc) (λ x b q k. search (rules, tests)))
    ∙ place_or_length place (length shifts) (place_within (λ (seen : Shift). test (plain_shift seen)) shifts)
    ∙ place_of_all plain_shift test shifts
