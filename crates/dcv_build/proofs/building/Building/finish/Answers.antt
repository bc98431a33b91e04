use Rattle.dcv_build.proofs.building.Building.finish.Goals as goal

pub returns : goal.returns
returns c limits was = c.turn.ensures limits (was c.in_ok-made.made.auto c.in_ok-made.ensures.least)
