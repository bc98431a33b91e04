-- The node lines of an automaton: the nodes of its rows, each once, with numbers by which a node speaks of its children.
-- The rows are visited in the order of the states. To visit a node that has no number, the child where its variable is false is
-- visited, then the child where it is true, and then the node gets the next number.
--     lo_of, hi_of arena place      the children of the node at this place of the arena, where its variable is false and where it is true
--     is_numbered places place      whether a place has a number yet; these have one, in order
--     visit arena places ref        the places that have a number after the ref is visited
--     numbered arena rows           and after these rows are visited one after another, where at first none has
--     child_of places ref           a leaf as its state, a node as its number
--     line_of arena places place    the line of the node at this place
--     lines_of_rows arena rows      the lines in the order of their numbers, and what each row is
--     node_lines_of raw             those of an automaton's rows
--     states_at letter lines        the states for which the lines stand at a letter
--     AreReducedRows slots bound size all     they are a reduced diagram of so many rows, with numbers below the bound, in which children come
--                                   before their nodes
--     AreReduced slots states all   and so they are for an automaton with so many states
use Rattle.std.specs.Prelude.{◌≡◌, ◌≢◌, ℕ, ◌<◌, Bool, false, nat_eq, if◌then◌else◌, List, [], ◌∷◌, ◌++◌, length, map, fold, Some, slice_get, slice_index_or}
use Rattle.std.specs.List.{All, AllPairs, list_any, position_or_len}
use Rattle.dcv_arena.specs.Arena.{ArenaValue, level_of}
use Rattle.dcv_arena.specs.declared.nodes.Ref.{Ref}
use Rattle.dcv_arena.specs.declared.nodes.Ref.TheVariants.{Leaf, Place}
use Rattle.dcv_language.specs.declared.child.Child.{Child}
use Rattle.dcv_language.specs.declared.child.Child.TheVariants.{State, Node}
use Rattle.dcv_dfa.specs.declared.node_lines.NodeLine.{NodeLine}
use Rattle.dcv_dfa.specs.Raw.{RawValue}

-- ---- children

-- those of each node, in order
abbrev pub children_of : ArenaValue → List (Ref × Ref)
children_of arena = map (λ node. (node.lo, node.hi)) arena.nodes

-- a place that has no node has the leaf 0
abbrev pub lo_of : ArenaValue → ℕ → Ref
lo_of arena place = (slice_index_or (children_of arena) place (Leaf 0, Leaf 0)).0

abbrev pub hi_of : ArenaValue → ℕ → Ref
hi_of arena place = (slice_index_or (children_of arena) place (Leaf 0, Leaf 0)).1

-- ---- visits

abbrev pub is_numbered : List ℕ → ℕ → Bool
is_numbered places place = list_any (nat_eq place) places

-- given what a visit to each node does to the places that have a number
abbrev pub visit_by : List (List ℕ → List ℕ) → List ℕ → Ref → List ℕ
visit_by visits places (Leaf state) = places
visit_by visits places (Place place) = slice_index_or visits place (λ places. places) places

abbrev pub visit_node : List (List ℕ → List ℕ) → ℕ → Ref × Ref → List ℕ → List ℕ
visit_node visits place children places =
    if is_numbered places place then places else visit_by visits (visit_by visits places children.0) children.1 ++ place ∷ []

-- what a visit to each node does, in order, by the nodes' children; these stand before their nodes
unfoldable pub visits_of : List (Ref × Ref) → List (List ℕ → List ℕ)
visits_of children = fold (λ visits pair. visits ++ visit_node visits (length visits) pair ∷ []) [] children

abbrev pub visit : ArenaValue → List ℕ → Ref → List ℕ
visit arena places ref = visit_by (visits_of (children_of arena)) places ref

abbrev pub numbered : ArenaValue → List Ref → List ℕ
numbered arena rows = fold (visit arena) [] rows

-- ---- lines

abbrev pub number_of : List ℕ → ℕ → ℕ
number_of places place = position_or_len (nat_eq place) places

abbrev pub child_of : List ℕ → Ref → Child
child_of places (Leaf state) = State state
child_of places (Place place) = Node (number_of places place)

abbrev pub line_of : ArenaValue → List ℕ → ℕ → NodeLine
line_of arena places place =
    record { slot = level_of arena (Place place); hi = child_of places (hi_of arena place); lo = child_of places (lo_of arena place) }

pub record NodeLinesValue : Type 0 where
  pub lines : List NodeLine
  pub rows : List Child

abbrev pub lines_and_rows : List NodeLine → List Child → NodeLinesValue
lines_and_rows lines rows = record { lines = lines; rows = rows }

abbrev pub lines_of_rows : ArenaValue → List Ref → NodeLinesValue
lines_of_rows arena rows =
    let places = numbered arena rows in
    lines_and_rows (map (line_of arena places) places) (map (child_of places) rows)

abbrev pub node_lines_of : RawValue → NodeLinesValue
node_lines_of raw = lines_of_rows raw.arena raw.rows

-- ---- what they stand for

-- the state for which a child stands at a letter, given those for which the nodes with lesser numbers do
abbrev pub state_at : List ℕ → Child → ℕ
state_at states (State state) = state
state_at states (Node number) = slice_index_or states number 0

-- the states for which the lines stand at a letter, in order
unfoldable pub states_at : List Bool → List NodeLine → List ℕ
states_at letter lines =
    fold (λ states line. states ++ state_at states (if slice_index_or letter line.slot false then line.hi else line.lo) ∷ []) [] lines

-- ---- what is true of them

-- a state below the first count, or a node with a number below the second
abbrev pub IsBelow : ℕ → ℕ → Child → Type 0
IsBelow states nodes (State state) = state < states
IsBelow states nodes (Node number) = number < nodes

-- a node's variable comes after this slot
abbrev pub ComesAfter : List NodeLine → ℕ → Child → Type 0
ComesAfter lines slot (State state) = Unit {0}
ComesAfter lines slot (Node number) = (line : NodeLine) → slice_get lines number ≡ Some line → slot < line.slot

-- the line with this number: its children differ, and those that are nodes have lesser numbers and later variables
pub record IsLine (slots states : ℕ) (lines : List NodeLine) (number : ℕ) (line : NodeLine) : Type 0 where
  pub slot : line.slot < slots
  pub differ : line.lo ≢ line.hi
  pub lo_below : IsBelow states number line.lo
  pub hi_below : IsBelow states number line.hi
  pub lo_after : ComesAfter lines line.slot line.lo
  pub hi_after : ComesAfter lines line.slot line.hi

pub record AreReducedRows (slots bound size : ℕ) (all : NodeLinesValue) : Type 0 where
  pub lines : (number : ℕ) (line : NodeLine) → slice_get all.lines number ≡ Some line → IsLine slots bound all.lines number line
  -- no line stands twice
  pub once : AllPairs (λ first second. first ≢ second) all.lines
  -- each row is a number below the bound, or a node that there is
  pub count : length all.rows ≡ size
  pub rows : All (IsBelow bound (length all.lines)) all.rows

-- a row for each state
abbrev pub AreReduced : ℕ → ℕ → NodeLinesValue → Type 0
AreReduced slots states all = AreReducedRows slots states states all
