-- The laws that `src/laws.rt` proves: of refs and their functions, of an arena's nodes, and of diagrams.
use Rattle.std.specs.Prelude.{◌≡◌, ◌≢◌, ◌↔◌, ℕ, suc, ◌+◌, ◌-◌, ◌<◌, ◌≤◌, Bool, true, false, if◌then◌else◌, List, [], ◌∷◌, ◌++◌, length, map, slice_set, slice_index_or, Contains}
use Rattle.std.specs.List.{All, AllPairs}
use Rattle.dcv_word.specs.Letter.{bits_of, letters_of_width}
use Rattle.dcv_arena.specs.Arena.{ArenaValue, IsArena, IsRef, IsNew, level_of, value_of, table_of, node_at, diagram_nodes, KeepsRefs, HasOnlyNodesOf, AddsOnlyNodesOf, AddsOnlyNodesOfFunction, IncludesNodesOf, count_with}
use Rattle.dcv_arena.specs.Diagram.{as_table, block, first_half, second_half, nodes_of, nodes_of_all, node_count}
use Rattle.dcv_arena.specs.declared.nodes.Ref.{Ref}
use Rattle.dcv_arena.specs.declared.nodes.Ref.TheVariants.{Place}

-- ---- refs and functions

-- a ref has this number at each letter
abbrev pub HasFunction : ArenaValue → Ref → (List Bool → ℕ) → Type 0
HasFunction arena ref function = (letter : List Bool) → length letter ≡ arena.slots → value_of arena ref letter ≡ function letter

-- two refs are equal exactly where their numbers are, at each letter
abbrev pub OneRefForOneFunction : Type 0
OneRefForOneFunction = (arena : ArenaValue) (first second : Ref) → IsArena arena → IsRef arena first → IsRef arena second
    → (first ≡ second) ↔ HasFunction arena first (value_of arena second)

-- and exactly where their tables are
abbrev pub OneRefForOneTable : Type 0
OneRefForOneTable = (arena : ArenaValue) (first second : Ref) → IsArena arena → IsRef arena first → IsRef arena second
    → (first ≡ second) ↔ (table_of arena first ≡ table_of arena second)

-- a node that is new has a function that no ref has yet
abbrev pub NewNodeIsNewFunction : Type 0
NewNodeIsNewFunction = (arena : ArenaValue) (slot : ℕ) (lo hi : Ref) → IsArena arena → IsRef arena lo → IsRef arena hi
    → slot < arena.slots → slot < level_of arena lo → slot < level_of arena hi → IsNew arena slot lo hi
    → (ref : Ref) → IsRef arena ref
    → ¬ HasFunction arena ref (λ letter. if slice_index_or letter slot false then value_of arena hi letter else value_of arena lo letter)

-- a function does not depend on the slots before its ref's level
abbrev pub EarlierSlotsAreIgnored : Type 0
EarlierSlotsAreIgnored = (arena : ArenaValue) (ref : Ref) (first second : List Bool) → IsArena arena → IsRef arena ref
    → ((slot : ℕ) → level_of arena ref ≤ slot → slice_index_or first slot false ≡ slice_index_or second slot false)
    → value_of arena ref first ≡ value_of arena ref second

-- and depends on the slot that its level is, unless it is a leaf
abbrev pub OwnSlotMatters : Type 0
OwnSlotMatters = (arena : ArenaValue) (ref : Ref) → IsArena arena → IsRef arena ref → level_of arena ref < arena.slots
    → ¬ ((letter : List Bool) → length letter ≡ arena.slots
    → value_of arena ref (slice_set letter (level_of arena ref) false) ≡ value_of arena ref (slice_set letter (level_of arena ref) true))

-- ---- the nodes of an arena

-- they are the nodes of the functions of its refs
abbrev pub NodesAreOfFunctions : Type 0
NodesAreOfFunctions = (arena : ArenaValue) (node : ℕ × List ℕ) → IsArena arena
    → Contains (diagram_nodes arena) node ↔ ((ref : Ref) × IsRef arena ref × Contains (nodes_of arena.slots (table_of arena ref)) node)

-- and no two are the same
abbrev pub NodesAreApart : Type 0
NodesAreApart = (arena : ArenaValue) → IsArena arena → AllPairs (λ a b. a ≢ b) (diagram_nodes arena)

-- as many as the arena has
abbrev pub NodesAreCounted : Type 0
NodesAreCounted = (arena : ArenaValue) → length (diagram_nodes arena) ≡ length arena.nodes

-- a node's block has the numbers of its function after any front, since the slots before its own do not matter
abbrev pub NodesAreOfAnyFront : Type 0
NodesAreOfAnyFront = (arena : ArenaValue) (place : ℕ) (front : List Bool) → IsArena arena → IsRef arena (Place place)
    → length front ≡ level_of arena (Place place)
    → (node_at arena place).1 ≡ map (λ values. value_of arena (Place place) (front ++ values)) (letters_of_width (arena.slots - level_of arena (Place place)))

-- ---- arenas that grow

-- an arena keeps its own refs

abbrev pub RefsAreKeptByItself : Type 0
RefsAreKeptByItself = (arena : ArenaValue) → KeepsRefs arena arena

-- and what is kept twice in turn is kept
abbrev pub RefsAreKeptInTurn : Type 0
RefsAreKeptInTurn = (first second third : ArenaValue) → KeepsRefs first second → KeepsRefs second third → KeepsRefs first third

-- an arena with no nodes has those of no function
abbrev pub NoNodesAreOfNoRoots : Type 0
NoNodesAreOfNoRoots = (arena : ArenaValue) → arena.nodes ≡ [] → HasOnlyNodesOf arena []

-- where one more function's nodes are added, the arena has only the nodes of the functions so far and of that one
abbrev pub OneMoreRoot : Type 0
OneMoreRoot = (old new : ArenaValue) (roots : List Ref) (root : Ref) → KeepsRefs old new → All (IsRef old) roots
    → HasOnlyNodesOf old roots → AddsOnlyNodesOf old new root → HasOnlyNodesOf new (roots ++ root ∷ [])

-- what is added for a part of a function, and then for the function, is all of the function
abbrev pub PartsAreAddedInTurn : Type 0
PartsAreAddedInTurn = (old middle new : ArenaValue) (part root : Ref) → AddsOnlyNodesOf old middle part → AddsOnlyNodesOf middle new root
    → IncludesNodesOf middle part new root → AddsOnlyNodesOf old new root

-- a part is a part whichever of the arenas between has its ref
abbrev pub PartsAreKept : Type 0
PartsAreKept = (old middle new : ArenaValue) (part root : Ref) → KeepsRefs old middle → IsRef old part
    → IncludesNodesOf middle part new root → IncludesNodesOf old part new root

-- ---- nodes of functions that no ref may mean yet

-- after a front the ref has the function's numbers
abbrev pub MeansBehind : ArenaValue → Ref → List Bool → (List Bool → ℕ) → Type 0
MeansBehind arena ref front function = (values : List Bool) → length front + length values ≡ arena.slots
    → value_of arena ref (front ++ values) ≡ function (front ++ values)

-- the nodes of such a ref that ignores the front's slots are nodes of the function
abbrev pub NodesAreBehindFronts : Type 0
NodesAreBehindFronts = (arena : ArenaValue) (ref : Ref) (front : List Bool) (function : List Bool → ℕ) → IsArena arena → IsRef arena ref
    → length front ≤ level_of arena ref → MeansBehind arena ref front function
    → (node : ℕ × List ℕ) → Contains (nodes_of arena.slots (table_of arena ref)) node → Contains (nodes_of arena.slots (as_table arena.slots function)) node

-- a node that is new is one more than the arena has, and a node of each function that goes to its children after a front
abbrev pub NewNodeIsOneMore : Type 0
NewNodeIsOneMore = (arena : ArenaValue) (slot : ℕ) (lo hi : Ref) (front : List Bool) (function : List Bool → ℕ) → IsArena arena → IsRef arena lo → IsRef arena hi
    → slot < arena.slots → slot < level_of arena lo → slot < level_of arena hi → IsNew arena slot lo hi → length front ≤ slot
    → ((values : List Bool) → length front + length values ≡ arena.slots → function (front ++ values)
    ≡ (if slice_index_or (front ++ values) slot false then value_of arena hi (front ++ values) else value_of arena lo (front ++ values)))
    → length arena.nodes < count_with arena function

-- what was added for a function is counted with it already
abbrev pub AddedNodesAreCounted : Type 0
AddedNodesAreCounted = (old new : ArenaValue) (function : List Bool → ℕ) → IsArena old → IsArena new → KeepsRefs old new
    → AddsOnlyNodesOfFunction old new function → count_with new function ≤ count_with old function

-- functions whose nodes are all among those of others have no more
abbrev pub FewerNodesAreNoMore : Type 0
FewerNodesAreNoMore = (slots : ℕ) (few many : List (List ℕ)) → ((node : ℕ × List ℕ) → Contains (nodes_of_all slots few) node → Contains (nodes_of_all slots many) node)
    → node_count slots few ≤ node_count slots many

-- ---- blocks

-- a block has the numbers of the letters that begin alike, and stands at the number of what they begin with
abbrev pub BlocksAreOfFronts : Type 0
BlocksAreOfFronts = (front : List Bool) (rest slots : ℕ) (function : List Bool → ℕ) → length front + rest ≡ slots
    → block slots (map function (letters_of_width slots)) (length front) (bits_of front) ≡ map (λ values. function (front ++ values)) (letters_of_width rest)

-- its first half has those of the letters with false in the level's slot
abbrev pub FirstHalfIsOfFalse : Type 0
FirstHalfIsOfFalse = (front : List Bool) (rest : ℕ) (function : List Bool → ℕ)
    → first_half (map (λ values. function (front ++ values)) (letters_of_width (suc rest))) ≡ map (λ values. function (front ++ false ∷ values)) (letters_of_width rest)

-- and its second half those with true
abbrev pub SecondHalfIsOfTrue : Type 0
SecondHalfIsOfTrue = (front : List Bool) (rest : ℕ) (function : List Bool → ℕ)
    → second_half (map (λ values. function (front ++ values)) (letters_of_width (suc rest))) ≡ map (λ values. function (front ++ true ∷ values)) (letters_of_width rest)
