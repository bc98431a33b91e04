use Rattle.std.proofs.Common.{◌≡◌, ◌⊎◌, ℕ, true, false, length, slice_index_or, Contains}
use Rattle.dcv_arena.specs.declared.nodes.Ref.TheVariants.{Place}
use Rattle.dcv_minimise.proofs.own_nodes.mark_rows.Given as goal

-- what is marked is one of the rows, or was before
abbrev pub invariant-loop-row : goal.invariant-loop-row
invariant-loop-row l = record {
  as_long : length l.marked ≡ length l.initial.marked;
  marks : (place : ℕ) → slice_index_or l.marked place false ≡ true → (slice_index_or l.initial.marked place false ≡ true) ⊎ Contains l.rows (Place place);
}
