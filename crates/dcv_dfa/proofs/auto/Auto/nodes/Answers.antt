-- The arena has the nodes of the rows and no others, so it counts them.
use Rattle.std.proofs.Common.{◌≡◌, map, subst}
use Rattle.std.specs.List.{All}
use Rattle.dcv_arena.specs.Arena.{ArenaValue, IsRef, table_of, HasOnlyNodesOf}
use Rattle.dcv_arena.specs.Diagram.{node_count}
use Rattle.dcv_dfa.specs.Raw.{RawValue}
use Rattle.dcv_dfa.specs.Auto.{count_of_nodes}
use Rattle.dcv_dfa.proofs.auto.Auto.nodes.Goals as goal

pub returns : goal.returns
returns c =
    let raw = c.self.inside.raw in
    let P : ArenaValue → Type 0 = λ arena. All (IsRef arena) raw.rows → HasOnlyNodesOf arena raw.rows → c.len.result ≡ node_count arena.slots (map (table_of arena) raw.rows) in
    let Q : RawValue → Type 0 = λ raw. c.len.result ≡ count_of_nodes raw in
    subst Q c.self.view_is (subst P c.arena.ensures.arena (c.len.ensures.exact raw.rows) c.arena.ensures.raw.rows c.self.invariant.auto.nodes)
