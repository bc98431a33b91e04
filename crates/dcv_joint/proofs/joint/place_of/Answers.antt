use Rattle.std.proofs.Common.{rules, tests, ◌∙◌, List, ℕ, length, ap}
use Rattle.std.specs.List.{position_or_len}
use Rattle.std.specs.Option.{unwrap_or}
use Rattle.std.specs.Prelude.{bytes_eq}
use Rattle.std.proofs.lemmas.Iterator.{YieldsList-from_slice}
use Rattle.std.proofs.lemmas.Iterator.Search.{position_from_yields_List}
use Rattle.dcv_tracks.proofs.GoalSteps.{place_or_length, place_within}
use Rattle.dcv_joint.proofs.joint.place_of.Goals as goal

pub returns-clause-place : goal.returns-clause-place
returns-clause-place c =
    let names = c.args.names.now in
    let test = λ (other : List ℕ). bytes_eq other c.args.name.now in
    let place = position_or_len test names in
    c.unwrap_or.ensures
    ∙ ap (λ found. unwrap_or found (length names))
    (position_from_yields_List test _ _ c.position-place.result c.position-place.ensures.ran (YieldsList-from_slice names cc) (λ x b q k. search (rules, tests)))
    ∙ place_or_length place (length names) (place_within test names)
