use Rattle.std.proofs.Common.{length, sym, subst, ◌∙◌}
use Rattle.std.proofs.lemmas.Result.{IfErr-at_err}
use Rattle.dcv_core.specs.Steps.{steps_of}
use Rattle.dcv_explore.specs.declared.explorer.Limits.{Limits}
use Rattle.dcv_build.specs.Budget.{IsFaultOver}
use Rattle.dcv_build.specs.Building.{IsGoal}
use Rattle.dcv_build.specs.Counts.{AreCounts}
use Rattle.dcv_build.specs.declared.faults.BuildFault.TheVariants.{Memory}
use Rattle.dcv_build.proofs.Ends.{fresh_building, builds, builds_none, built_counts}
use Rattle.dcv_build.proofs.builder.Builder.build_counted.Goals as goal

pub take_to-taken-requires-clause-begun : goal.take_to-taken-requires-clause-begun
take_to-taken-requires-clause-begun c = fresh_building c.args.core.now c.new-building.result c.new-building.ensures.tables c.new-building.ensures.waiting c.new-building.ensures.counts

pub returns-clause-builds : goal.returns-clause-builds
returns-clause-builds c =
    let core = c.args.core.now in
    let counts = c.finish.new.self.counts.items in
    builds core c.args.self.now _ counts c.requires
    (subst (λ (l : Limits). IsGoal core l (length core.steps) c.in_ok-auto.auto counts) (c.new-building.ensures.limits ∙ c.self.view_is)
    (c.in_ok-auto.ensures c.new-building.result.known.limits c.in_ok-taken.ensures.goal))

pub returns-clause-counts : goal.returns-clause-counts
returns-clause-counts c tree is =
    let core = c.args.core.now in
    let counts = c.finish.new.self.counts.items in
    let goal_is = subst (λ (l : Limits). IsGoal core l (length core.steps) c.in_ok-auto.auto counts) (c.new-building.ensures.limits ∙ c.self.view_is)
    (c.in_ok-auto.ensures c.new-building.result.known.limits c.in_ok-taken.ensures.goal) in
    subst (AreCounts (steps_of core.declared tree) c.args.self.now) (λ i. (sym c.into_counts.ensures i).items) (built_counts core c.args.self.now c.in_ok-auto.auto counts goal_is tree is)

pub returns-in_err-taken-clause-builds : goal.returns-in_err-taken-clause-builds
returns-in_err-taken-clause-builds c =
    builds_none c.from_residual.result c.in_err-taken.field-0.0
    (λ tree is. subst (λ (l : Limits). IsFaultOver (steps_of c.args.core.now.declared tree) l c.in_err-taken.field-0.0) (c.new-building.ensures.limits ∙ c.self.view_is)
    (IfErr-at_err _ c.in_err-taken.was (c.take_to-taken.ensures.over tree is))) c.from_residual.ensures.1

pub returns-in_err-auto-clause-builds : goal.returns-in_err-auto-clause-builds
returns-in_err-auto-clause-builds c = builds_none c.from_residual-in_err-auto.result Memory (λ tree is. tt) c.from_residual-in_err-auto.ensures.1
