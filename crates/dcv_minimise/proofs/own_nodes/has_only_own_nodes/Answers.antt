use Rattle.std.proofs.Common.{ap, length, subst, sym, ◌∙◌}
use Rattle.dcv_arena.specs.Arena.{HasOnlyNodesOf}
use Rattle.dcv_minimise.specs.OwnNodes.{AreMarked}
use Rattle.dcv_minimise.proofs.OwnNodes.{marked_from_roots}
use Rattle.dcv_minimise.proofs.Pushed.{written_back}
use Rattle.dcv_minimise.proofs.own_nodes.has_only_own_nodes.Goals as goal

pub returns : goal.returns
returns c own =
    let arena = c.arena-arena.result.now in
    let rows = c.args.raw.now.rows in
    let list = c.in_ok-marked.marked in
    let blank = c.deref_mut.ensures.value ∙ c.in_ok-marked.ensures.items_if_clones_equal (λ x is. is) in
    let marks = marked_from_roots arena rows c.len.result _ c.mark_rows.new.marked _ blank c.rows.ensures.rows c.mark_rows.ensures.marks in
    let same = c.mark_rows.ensures.length ∙ ap length c.deref_mut.ensures.value in
    let back = c.deref_mut-2.ensures.value ∙ written_back c.mark_rows.new.marked list.items list.len same list.ok.0 in
    subst (λ (a : _). HasOnlyNodesOf a rows) c.arena-arena.ensures.arena (c.reach_all.ensures rows (subst (AreMarked arena rows) (sym back) marks) own)
