use Rattle.std.proofs.Common.{length, subst, ◌∙◌}
use Rattle.std.proofs.lemmas.Result.{IfErr-at_err}
use Rattle.dcv_core.specs.Steps.{steps_of}
use Rattle.dcv_explore.specs.declared.explorer.Limits.{Limits}
use Rattle.dcv_build.specs.Budget.{IsFaultOver}
use Rattle.dcv_build.specs.Building.{IsVerdictGoal}
use Rattle.dcv_build.proofs.Ends.{fresh_building, builds_none, verdict_is, verdict_within}
use Rattle.dcv_build.proofs.builder.Builder.build_for_verdict.Goals as goal

pub decide-decided-requires-clause-begun : goal.decide-decided-requires-clause-begun
decide-decided-requires-clause-begun c = fresh_building c.args.core.now c.new-building.result c.new-building.ensures.tables c.new-building.ensures.waiting c.new-building.ensures.counts

pub returns-clause-builds : goal.returns-clause-builds
returns-clause-builds c =
    let core = c.args.core.now in
    let limits = c.args.self.now in
    let raw = c.in_ok-explored.explored.raw in
    let complemented = c.is_complemented.result in
    let is = subst (λ (l : Limits). IsVerdictGoal core l (length core.steps) raw complemented) (c.new-building.ensures.limits ∙ c.self.view_is)
    (c.is_complemented.ensures c.new-building.result.known.limits raw c.in_ok-explored.ensures.goal) in
    record {
      is = verdict_is core limits raw complemented is;
      few_states = is.states;
      few_nodes = is.nodes;
      within = verdict_within core limits raw complemented is;
      over = λ tree is. tt;
    }

pub returns-in_err-explored-clause-builds : goal.returns-in_err-explored-clause-builds
returns-in_err-explored-clause-builds c =
    builds_none c.from_residual.result c.in_err-explored.field-0.0
    (λ tree is. subst (λ (l : Limits). IsFaultOver (steps_of c.args.core.now.declared tree) l c.in_err-explored.field-0.0) (c.new-building.ensures.limits ∙ c.self.view_is)
    (IfErr-at_err _ c.in_err-explored.was (c.decide-decided.ensures.over tree is))) c.from_residual.ensures.1
