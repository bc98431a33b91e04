use Rattle.std.proofs.Common.{take}
use Rattle.std.specs.List.{All}
use Rattle.dcv_arena.specs.declared.nodes.Ref.TheVariants.{Leaf}
use Rattle.dcv_refinement.specs.Leads.{index_of}
use Rattle.dcv_refinement.specs.Index.{IsMarked, IsFollowed}
use Rattle.dcv_refinement.proofs.climb.Climb.climb.Given as goal

abbrev pub invariant-loop-leaf : goal.invariant-loop-leaf
invariant-loop-leaf l = record {
  marked : IsMarked (index_of l.self.arena.now l.self.refs.now) l.self.leaves.now l.found.nodes l.found.rows.items;
  followed : All (λ leaf. IsFollowed l.self.nodes.now l.self.rows.now (Leaf leaf) l.found.nodes l.found.rows.items) (take l.leaf-index l.self.leaves.now);
}
