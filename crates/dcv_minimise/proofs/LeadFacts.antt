-- The states that are looked at are all that some letter leads from to one of those that moved.
use Rattle.std.proofs.Common.{List, ℕ, Contains}
use Rattle.dcv_arena.specs.declared.nodes.Ref.TheVariants.{Leaf}
use Rattle.dcv_dfa.specs.Raw.{RawValue, IsRaw}
use Rattle.dcv_refinement.specs.Leads.{index_of, IsRowInto}
use Rattle.dcv_minimise.specs.Rounds.{LeadTo}
use Rattle.dcv_minimise.proofs.RoundFacts.{next_state}

pub leads : (raw : RawValue) → IsRaw raw → (moved looked : List ℕ) → ((row : ℕ) → IsRowInto (index_of raw.arena raw.rows) moved row → Contains looked row) → LeadTo raw moved looked
leads raw is moved looked all state letter inside size c = all state (record {
  below = inside;
  leads = record { is_ref = is.rows state (Leaf 0) inside; letter = letter; width = size; below = next_state raw is state letter inside size; leaf = c };
})
