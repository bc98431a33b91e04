-- Functions of one arena with new numbers, in an arena of their own.
--     RenumberingValue              whose functions get new numbers, which ones, the arena of the new functions, and what places became so far
--     new_nodes numbers from        the nodes of all functions of an arena, with new numbers
--     IsRenumbering renumbering     the arena has such nodes alone, and room for all of them
use Rattle.std.specs.Prelude.{◌≡◌, ℕ, ◌≤◌, List, Option, length, map, Contains}
use Rattle.dcv_arena.specs.Arena.{ArenaValue, IsArena, places, diagram_nodes}
use Rattle.dcv_arena.specs.Diagram.{as_table, nodes_of_all}
use Rattle.dcv_arena.specs.declared.nodes.Ref.{Ref}
use Rattle.dcv_renumber.specs.Renumbered.{RemappingValue, renumbered, HoldsNew}

pub record RenumberingValue : Type 0 where
  pub from : ArenaValue
  pub numbers : List ℕ
  pub own : ArenaValue
  pub places : List (Option Ref)

abbrev pub seen_as : RemappingValue → ArenaValue → RenumberingValue
seen_as remapping own = record { from = remapping.from; numbers = remapping.numbers; own = own; places = remapping.places }

abbrev pub remapping_of : RenumberingValue → RemappingValue
remapping_of renumbering = record { from = renumbering.from; numbers = renumbering.numbers; places = renumbering.places }

abbrev pub new_nodes : List ℕ → ArenaValue → List (ℕ × List ℕ)
new_nodes numbers from = nodes_of_all from.slots (map (λ ref. as_table from.slots (renumbered numbers from ref)) (places from))

pub record IsRenumbering (renumbering : RenumberingValue) : Type 0 where
  pub from : IsArena renumbering.from
  pub own : IsArena renumbering.own
  pub slots : renumbering.own.slots ≡ renumbering.from.slots
  pub room : length renumbering.from.nodes ≤ renumbering.own.limit
  pub only : (node : ℕ × List ℕ) → Contains (diagram_nodes renumbering.own) node → Contains (new_nodes renumbering.numbers renumbering.from) node
  pub holds : HoldsNew (remapping_of renumbering) renumbering.own
