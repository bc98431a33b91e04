use Rattle.std.proofs.Common.{rules, ◌≡◌, refl, ◌∙◌}
use Rattle.dcv_core.specs.Core.{TruthConstant}
use Rattle.dcv_atoms.specs.Parts.{number_of_truth}
use Rattle.dcv_atoms.proofs.Building.{builds_there}
use Rattle.dcv_atoms.proofs.proposition.constant.Goals as goal

pub returns-clause-builds : goal.returns-clause-builds
returns-clause-builds c =
    let number : c.from.result ≡ number_of_truth c.args.truth = search rules in
    builds_there c.args.arena.now c.leaf.result (TruthConstant c.args.truth) (record {
      is_ref = c.leaf.ensures.is_ref;
      slots_are = refl;
      value = λ letter size. c.leaf.ensures.value letter ∙ number;
    })
