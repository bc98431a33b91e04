use Rattle.std.proofs.Common.{ℕ, ◌↔◌, OnOk, Contains, subst}
use Rattle.std.proofs.lemmas.List.Elements.{All-contains}
use Rattle.dcv_arena.specs.declared.nodes.Ref.TheVariants.{Place}
use Rattle.dcv_refinement.specs.Leads.{IndexedRows, index_of, LeadsInto, IsRowInto}
use Rattle.dcv_refinement.proofs.IndexFacts.{on_ok_two, all_looked, all_marked}
use Rattle.dcv_refinement.proofs.index.Index.above.Goals as goal

pub returns-clause-rows : goal.returns-clause-rows
returns-clause-rows c =
    let fields = c.self.inside in
    let arena = fields.arena.now in
    let refs = fields.refs.now in
    let leaves = c.args.leaves.now in
    let nodes = fields.nodes in
    let rows = fields.rows in
    subst (λ (index : IndexedRows). OnOk c.climb.result ((row : ℕ) → Contains c.climb.new.found.rows.items row ↔ IsRowInto index leaves row)) c.self.view_is
    (on_ok_two c.climb.result _ _ _ (λ closed marked row. (
      All-contains (IsRowInto (index_of arena refs) leaves) c.climb.new.found.rows.items row marked.rows,
      all_looked arena refs nodes rows c.self.invariant leaves c.climb.new.found.nodes c.climb.new.found.rows.items closed row,
    )) c.climb.ensures.closed c.climb.ensures.marked)

pub returns-clause-nodes : goal.returns-clause-nodes
returns-clause-nodes c =
    let fields = c.self.inside in
    let arena = fields.arena.now in
    let refs = fields.refs.now in
    let leaves = c.args.leaves.now in
    let nodes = fields.nodes in
    let rows = fields.rows in
    subst (λ (index : IndexedRows). OnOk c.climb.result ((place : ℕ) → Contains c.climb.new.found.nodes place ↔ LeadsInto index leaves (Place place))) c.self.view_is
    (on_ok_two c.climb.result _ _ _ (λ closed marked place. (
      All-contains (λ place. LeadsInto (index_of arena refs) leaves (Place place)) c.climb.new.found.nodes place marked.nodes,
      all_marked arena refs nodes rows c.self.invariant leaves c.climb.new.found.nodes c.climb.new.found.rows.items closed place,
    )) c.climb.ensures.closed c.climb.ensures.marked)
