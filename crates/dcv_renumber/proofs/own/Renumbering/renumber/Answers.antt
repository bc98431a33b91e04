use Rattle.std.proofs.Common.{Err, sym, ap, subst, ◌∙◌, arith}
use Rattle.std.specs.Prelude.{IfOk}
use Rattle.dcv_arena.specs.Arena.{IsRef, AddsOnlyNodesOf}
use Rattle.dcv_renumber.specs.Own.{RenumberingValue, seen_as}
use Rattle.dcv_renumber.proofs.OwnNodes.{has_room, one_more}
use Rattle.dcv_renumber.proofs.own.Renumbering.renumber.Goals as goal
use Rattle.dcv_renumber.proofs.own.Renumbering.renumber.Goals.{After-remap, in-Ok, in-Err+in-Memory}

root_is_ref : (c : After-remap) → IsRef c.self.inside.remapping.from c.args.root
root_is_ref c = subst (λ (it : RenumberingValue). IsRef it.from c.args.root) (sym c.self.view_is) c.requires.root

pub unreachable-requires : goal.unreachable-requires
unreachable-requires c =
    let full = c.remap.ensures.full c.in-Full.limit (c.in-Err.is ∙ ap Err c.in-Full.is) in
    let room = has_room (seen_as c.self.inside.remapping c.self.inside.own) c.self.invariant c.args.root (root_is_ref (goal.at.unreachable-requires c).After-remap) in
    absurd (omega (arith, full.0, full.1, room))

pub invariant_of-self : goal.invariant_of-self
invariant_of-self c =
    one_more (seen_as c.self.inside.remapping c.self.inside.own) c.self.invariant c.args.root (root_is_ref (goal.at.invariant_of-self c).After-remap)
    c.remap.new.self c.remap.new.arena c.remap.ensures.from c.remap.ensures.map c.remap.ensures.holds c.remap.ensures.arena c.remap.ensures.kept c.remap.ensures.stray

pub returns-clause-adds : goal.returns-clause-adds
returns-clause-adds c =
    let adds = λ (it : RenumberingValue). IfOk c.match-remap.result (AddsOnlyNodesOf it.own c.remap.new.arena) in
    subst adds c.self.view_is (elim c.match-remap.branch [
      | in-Ok w ↦ subst (λ result. IfOk result (AddsOnlyNodesOf c.self.inside.own c.remap.new.arena)) (sym w.result-is) w.in-Ok.ensures.adds
      | in-Err+in-Memory w ↦ subst (λ result. IfOk result (AddsOnlyNodesOf c.self.inside.own c.remap.new.arena)) (sym w.result-is) tt
    ])
