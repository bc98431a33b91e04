use Rattle.std.proofs.Common.{not}
use Rattle.dcv_core.specs.Core.{TruthNot}
use Rattle.dcv_core.specs.Holds.{truth_holds}
use Rattle.dcv_atoms.proofs.Building.{exceeds_one}
use Rattle.dcv_atoms.proofs.ListSteps.{put_builds}
use Rattle.dcv_atoms.proofs.proposition.opposite.Goals as goal

pub returns-clause-means : goal.returns-clause-means
returns-clause-means c P means = c.put.ensures.means (λ letter. not (P letter)) (c.in_ok-opposite.ensures.opposite P means)

pub returns-clause-builds : goal.returns-clause-builds
returns-clause-builds c p means =
    put_builds c.args.arena.now c.put.new.arena (TruthNot p) c.put.ensures.kept c.put.result c.put.ensures.adds
    (c.put.ensures.means (truth_holds (TruthNot p)) (c.in_ok-opposite.ensures.opposite (truth_holds p) means))

pub returns-clause-exceeds : goal.returns-clause-exceeds
returns-clause-exceeds c limit p e means =
    let over = c.put.ensures.full limit (truth_holds (TruthNot p)) e (c.in_ok-opposite.ensures.opposite (truth_holds p) means) in
    exceeds_one c.args.arena.now (TruthNot p) limit c.requires.arena over.0 over.1
