use Rattle.std.proofs.Common.{◌+◌, List, IfErr, subst}
use Rattle.dcv_language.specs.declared.count.Count.{Count}
use Rattle.dcv_core.specs.Steps.{steps_of}
use Rattle.dcv_explore.specs.declared.explorer.Limits.{Limits}
use Rattle.dcv_build.specs.Asked.{tables_at}
use Rattle.dcv_build.specs.Budget.{IsFaultOver}
use Rattle.dcv_build.specs.Building.{IsExploredGoal, IsNoted}
use Rattle.dcv_build.proofs.FaultFacts.{handed_on}
use Rattle.dcv_build.proofs.Turning.{made_goal}
use Rattle.dcv_build.proofs.building.Building.take_to.Goals as goal

pub returns-clause-goal : goal.returns-clause-goal
returns-clause-goal c =
    let mid = c.take_steps.new.self in
    let left = c.make.new.self in
    let explored = c.in_ok-explored.explored in
    let noted = subst (λ (listed : List Count). IsNoted c.args.core.now c.args.last explored.states explored.nodes listed c.note.new.counts.items) (λ i. (c.make.ensures.counts i).items) c.in_ok-note.ensures in
    let last = made_goal c.args.core.now mid.known.limits c.args.last (tables_at left.known.tables left.waiting.items) mid.counts.items c.note.new.counts.items c.make.result explored c.in_ok-explored.was c.make.ensures.makes noted in
    subst (λ (l : Limits). IsExploredGoal c.args.core.now l (c.args.last + 1) explored.raw c.note.new.counts.items) c.take_steps.ensures.limits last

pub returns-in_err-explored-clause-over : goal.returns-in_err-explored-clause-over
returns-in_err-explored-clause-over c tree is =
    subst (λ (l : Limits). IfErr c.from_residual-in_err-explored.result (IsFaultOver (steps_of c.args.core.now.declared tree) l)) c.take_steps.ensures.limits
    (handed_on _ c.make.result _ c.from_residual-in_err-explored.result (c.make.ensures.makes tree is).over c.in_err-explored.was c.from_residual-in_err-explored.ensures.1)
