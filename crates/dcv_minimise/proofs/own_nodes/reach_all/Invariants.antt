use Rattle.std.proofs.Common.{◌≡◌, ℕ, ◌≤◌, ◌<◌, List, length}
use Rattle.dcv_arena.specs.declared.nodes.Ref.{Ref}
use Rattle.dcv_arena.specs.declared.nodes.Ref.TheVariants.{Place}
use Rattle.dcv_minimise.specs.OwnNodes.{IsOfRoots, AreMarked}
use Rattle.dcv_minimise.proofs.own_nodes.reach_all.Given as goal

-- the nodes from here on are of the roots that were marked, and so are those with a mark
abbrev pub invariant-loop-place : goal.invariant-loop-place
invariant-loop-place l = record {
  as_long : length l.marked ≡ length l.arena.nodes;
  within : l.place ≤ length l.arena.nodes;
  marks : (roots : List Ref) → AreMarked l.arena roots l.initial.marked → AreMarked l.arena roots l.marked;
  later : (roots : List Ref) → AreMarked l.arena roots l.initial.marked → (place : ℕ) → l.place ≤ place → place < length l.arena.nodes → IsOfRoots l.arena roots (Place place);
}
