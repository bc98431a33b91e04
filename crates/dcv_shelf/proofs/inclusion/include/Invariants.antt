use Rattle.std.proofs.Common.{◌≡◌, ◌≤◌, ◌+◌, length}
use Rattle.dcv_arena.specs.Arena.{IsArena, KeepsRefs}
use Rattle.dcv_shelf.specs.Copies.{HasCopies}
use Rattle.dcv_shelf.proofs.inclusion.include.Given as goal

abbrev pub invariant-loop-place : goal.invariant-loop-place
invariant-loop-place l = record {
  count : length l.copies.items ≡ l.place;
  copies : HasCopies l.from l.arena l.copies.items;
  few : length l.arena.nodes ≤ length l.fn.arena.nodes + l.place;
  kept : KeepsRefs l.fn.arena l.arena;
  arena : IsArena l.arena;
}
