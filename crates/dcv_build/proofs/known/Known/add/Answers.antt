use Rattle.std.proofs.Common.{◌∙◌}
use Rattle.dcv_build.proofs.Answered.{answers_kept}
use Rattle.dcv_build.proofs.known.Known.add.Goals as goal

pub invariant_of-self : goal.invariant_of-self
invariant_of-self c =
    (c.add.ensures.slots ∙ c.self.invariant.0, answers_kept c.self.inside.shelf.tables c.add.new.self.tables c.add.ensures.kept c.self.inside.limits c.self.inside.found.entries c.self.invariant.1)
