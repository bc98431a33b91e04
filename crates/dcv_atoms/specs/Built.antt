-- Arenas that have the nodes of the parts of propositions and no others, as they grow.
--     truth_table slots p            a proposition as a table of numbers
--     HasParts arena listed          the arena has refs of these propositions, and their nodes alone
--     Builds old new listed          what calls add that build these propositions
--     Exceeds old listed limit       they have more nodes, with those that were there, than the limit, which is the arena's
--     Leads old here left listed     where those that are left are built too, all of these are
--     OnTheWay old here join listed left all root     some operands of a list are built and joined, and these are left
use Rattle.std.specs.Prelude.{◌≡◌, ◌<◌, ℕ, Bool, List, ◌++◌, map}
use Rattle.std.specs.List.{All, flat_map}
use Rattle.dcv_arena.specs.Arena.{ArenaValue, IsArena, IsRef, table_of, KeepsRefs, HasOnlyNodesOf}
use Rattle.dcv_arena.specs.Diagram.{as_table}
use Rattle.dcv_arena.specs.declared.nodes.Ref.{Ref}
use Rattle.dcv_core.specs.Core.{PlainTruth}
use Rattle.dcv_syntax.specs.declared.propositions.Connective.{Connective}
use Rattle.dcv_logic.specs.Connectives.{of_none}
use Rattle.dcv_core.specs.Holds.{joined_truths}
use Rattle.dcv_core.specs.TruthViews.{truths_of}
use Rattle.dcv_atoms.specs.Functions.{Means}
use Rattle.dcv_atoms.specs.Parts.{parts, number_at, part_nodes}

abbrev pub truth_table : ℕ → PlainTruth → List ℕ
truth_table slots p = as_table slots (number_at p)

pub record HasParts (arena : ArenaValue) (listed : List PlainTruth) : Type 0 where
  pub roots : List Ref
  pub refs : All (IsRef arena) roots
  pub tables : map (table_of arena) roots ≡ map (truth_table arena.slots) listed
  pub only : HasOnlyNodesOf arena roots

pub record Builds (old new : ArenaValue) (listed : List PlainTruth) : Type 0 where
  pub kept : KeepsRefs old new
  pub parts : (before : List PlainTruth) → HasParts old before → HasParts new (before ++ listed)

pub record Exceeds (old : ArenaValue) (listed : List PlainTruth) (limit : ℕ) : Type 0 where
  pub own : limit ≡ old.limit
  pub more : (before : List PlainTruth) → HasParts old before → limit < part_nodes old.slots (before ++ listed)

pub record Leads (old here : ArenaValue) (left listed : List PlainTruth) : Type 0 where
  pub kept : KeepsRefs old here
  pub builds : (new : ArenaValue) → Builds here new left → Builds old new listed
  pub exceeds : (limit : ℕ) → Exceeds here left limit → Exceeds old listed limit

-- what is true while the operands of a list are joined: this function is what those so far are joined to
pub record OnTheWay (old here : ArenaValue) (connective : Connective) (listed left : List PlainTruth) (all : ArenaValue) (root : Ref) : Type 0 where
  pub arena : IsArena here
  pub leads : Leads old here (flat_map parts left) (flat_map parts listed)
  pub so_far : List Bool → Bool
  pub means : Means all root old.slots so_far
  pub rest : (letter : List Bool) → joined_truths connective (so_far letter) (truths_of left) letter ≡ joined_truths connective (of_none connective) (truths_of listed) letter
