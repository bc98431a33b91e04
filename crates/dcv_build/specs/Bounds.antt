-- What is known before a machine is explored.
--     CannotExceed machine limits         no more states are reached than the limit, and their rows have no more nodes
--     AreParts arena slot parts           these are refs of the arena, each a node of this slot or a later one, or a leaf
--     is_node_at, is_later                whether such a part is a node of this very slot, and whether it is none
--     GoesOn view state front parts       behind this front the row of the state goes on as one of the parts
--     ArePartsAt view slot parts          behind each front of so many values each row goes on as one of the parts
--     AreSplit arena slot old new         the new parts are both sides of each old one
--     HasParts view parts                 the rows are made of so many parts: their nodes, and a leaf for each state
--     HasNodesBefore one other slot most  the rows of the product have no more than so many nodes of slots before this one
use Rattle.std.specs.Prelude.{◌≡◌, ℕ, ◌+◌, ◌<◌, ◌≤◌, Bool, false, not, nat_eq, if◌then◌else◌, List, ◌++◌, length, slice_index_or, Contains}
use Rattle.dcv_arena.specs.Arena.{ArenaValue, IsRef, level_of, value_of}
use Rattle.dcv_arena.specs.Diagram.{as_table, nodes_of}
use Rattle.dcv_arena.specs.declared.nodes.Ref.{Ref}
use Rattle.dcv_language.specs.Automaton.{WorkingMachine}
use Rattle.dcv_language.specs.Table.{next_in, automaton_of}
use Rattle.dcv_dfa.specs.Table.{HasStates}
use Rattle.dcv_shelf.specs.Shelf.{nodes_of_table}
use Rattle.dcv_shelf.specs.Stored.{ViewValue, view_table}
use Rattle.dcv_explore.specs.declared.explorer.Limits.{Limits}
use Rattle.dcv_explore.specs.Budget.{TooManyStates, TooManyNodes, Passes}
use Rattle.dcv_build.specs.Numbers.{number_of_pair}

abbrev pub CannotExceed : {S : Type 0} → WorkingMachine S → Limits → Type 0
CannotExceed machine limits = (¬ Passes TooManyStates machine 0 limits) × (¬ Passes TooManyNodes machine 0 limits)

-- ---- the parts of rows

abbrev pub AreParts : ArenaValue → ℕ → List Ref → Type 0
AreParts arena slot parts = (part : Ref) → Contains parts part → IsRef arena part × (slot ≤ level_of arena part)

abbrev pub is_node_at : ArenaValue → ℕ → Ref → Bool
is_node_at arena slot part = nat_eq (level_of arena part) slot

abbrev pub is_later : ArenaValue → ℕ → Ref → Bool
is_later arena slot part = not (is_node_at arena slot part)

-- the number of the state that comes next, at a letter of the table's own slots
abbrev pub next_of : ViewValue → ℕ → List Bool → ℕ
next_of view state letter = next_in (view_table view).table state letter

abbrev pub states_of : ViewValue → ℕ
states_of view = length view.stored.states.items

pub record GoesOn (view : ViewValue) (state : ℕ) (front : List Bool) (parts : List Ref) : Type 0 where
  pub part : Ref
  pub among : Contains parts part
  pub numbers : (values : List Bool) → length front + length values ≡ view.stored.slots
      → value_of view.arena part (front ++ values) ≡ next_of view state (front ++ values)

pub record ArePartsAt (view : ViewValue) (slot : ℕ) (parts : List Ref) : Type 0 where
  pub refs : AreParts view.arena slot parts
  pub behind : (state : ℕ) (front : List Bool) → state < states_of view → length front ≡ slot → GoesOn view state front parts

pub record HasParts (view : ViewValue) (parts : ℕ) : Type 0 where
  pub states : HasStates (automaton_of (view_table view).table) view.stored.slots (states_of view)
  pub count : parts ≡ states_of view + nodes_of_table (view_table view)

-- the part is the one side or the other, by the letter's value in the slot
pub record HasSides (arena : ArenaValue) (slot : ℕ) (part : Ref) (parts : List Ref) : Type 0 where
  pub lo : Ref
  pub hi : Ref
  pub has_lo : Contains parts lo
  pub has_hi : Contains parts hi
  pub value : (letter : List Bool) → value_of arena part letter ≡ (if slice_index_or letter slot false then value_of arena hi letter else value_of arena lo letter)

pub record AreSplit (arena : ArenaValue) (slot : ℕ) (old new : List Ref) : Type 0 where
  pub refs : AreParts arena (slot + 1) new
  pub sides : (part : Ref) → Contains old part → HasSides arena slot part new

-- ---- the nodes of a product

-- the row of a pair of states
abbrev pub joined_row : ViewValue → ViewValue → ℕ → ℕ → List ℕ
joined_row one other state another = as_table one.stored.slots (λ letter. number_of_pair (next_of one state letter) (next_of other another letter))

-- each of them is listed here
pub record HasNodesBefore (one other : ViewValue) (slot most : ℕ) : Type 0 where
  pub nodes : List (ℕ × List ℕ)
  pub few : length nodes ≤ most
  pub all : (state another : ℕ) (node : ℕ × List ℕ) → state < states_of one → another < states_of other
      → Contains (nodes_of one.stored.slots (joined_row one other state another)) node → node.0 < slot → Contains nodes node
