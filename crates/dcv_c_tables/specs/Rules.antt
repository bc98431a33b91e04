-- The rules by which each step of a unit ends, reads nothing beyond an array, and looks at each parameter once at most: a node names a parameter
-- that there is, and two places before its own. Where such a place is a node, its parameter comes later.
--     ArePlacedNodes width bound nodes       these nodes, of which the first has this place
--     variable_at tables place               the parameter of the node at a place
--     ComesLater tables variable place       a place is a state, or a node with a later parameter
--     IsTables tables                        a unit that keeps the rules
use Rattle.std.specs.Prelude.{ℕ, ◌+◌, ◌-◌, ◌<◌, ◌≤◌, List, [], ◌∷◌, length, slice_index_or}
use Rattle.std.specs.List.{All}
use Rattle.dcv_language.specs.Limits.{most_variables, most_states, most_nodes}
use Rattle.dcv_c_tables.specs.Unit.{TableNode, TableState, Tables, no_node}

pub record IsPlacedNode (width bound : ℕ) (node : TableNode) : Type 0 where
  pub variable : node.variable < width
  -- places before its own, so that each walk ends
  pub high : node.high < bound
  pub low : node.low < bound

abbrev pub ArePlacedNodes : ℕ → ℕ → List TableNode → Type 0
ArePlacedNodes width bound [] = Unit {0}
ArePlacedNodes width bound (node ∷ nodes) = IsPlacedNode width bound node × ArePlacedNodes width (bound + 1) nodes

abbrev pub variable_at : Tables → ℕ → ℕ
variable_at tables place = (slice_index_or tables.nodes (place - length tables.states) no_node).variable

abbrev pub ComesLater : Tables → ℕ → ℕ → Type 0
ComesLater tables variable place = length tables.states ≤ place → variable < variable_at tables place

pub record IsOrderedNode (tables : Tables) (node : TableNode) : Type 0 where
  pub high : ComesLater tables node.variable node.high
  pub low : ComesLater tables node.variable node.low

pub record IsTables (tables : Tables) : Type 0 where
  pub few_parameters : length tables.parameters ≤ most_variables
  pub some_states : 0 < length tables.states
  pub few_states : length tables.states ≤ most_states
  pub few_nodes : length tables.nodes ≤ most_nodes
  pub nodes : ArePlacedNodes (length tables.parameters) (length tables.states) tables.nodes
  pub ordered : All (IsOrderedNode tables) tables.nodes
  pub rows : All (λ (state : TableState). state.row < length tables.states + length tables.nodes) tables.states
