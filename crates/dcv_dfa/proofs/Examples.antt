-- Numbers and lines of a small diagram, by hand: the child where the variable is false comes first, whatever place it has.
use Rattle.std.proofs.Common.{◌≡◌, true, false, List, [], ◌∷◌, refl}
use Rattle.dcv_arena.specs.Arena.{ArenaValue, node_of}
use Rattle.dcv_arena.specs.declared.nodes.Ref.{Ref}
use Rattle.dcv_arena.specs.declared.nodes.Ref.TheVariants.{Leaf, Place}
use Rattle.dcv_language.specs.declared.child.Child.TheVariants.{State, Node}
use Rattle.dcv_dfa.specs.Raw.{raw_value}
use Rattle.dcv_dfa.specs.NodeLines.{visits_of, numbered, lines_and_rows, node_lines_of}

-- two nodes of the second variable, and one of the first, with the later of the two where it is false
arena : ArenaValue
arena = record { slots = 2; limit = 9; nodes = node_of 1 (Leaf 0) (Leaf 1) ∷ node_of 1 (Leaf 1) (Leaf 0) ∷ node_of 0 (Place 1) (Place 0) ∷ [] }

rows : List Ref
rows = Place 2 ∷ Leaf 1 ∷ Place 0 ∷ []

numbers : numbered arena rows ≡ 1 ∷ 0 ∷ 2 ∷ []
unfolding arena rows visits_of
numbers = refl

lines : node_lines_of (raw_value arena rows (true ∷ false ∷ true ∷ []) 0)
    ≡ lines_and_rows
    (record { slot = 1; hi = State 0; lo = State 1 } ∷ record { slot = 1; hi = State 1; lo = State 0 } ∷ record { slot = 0; hi = Node 1; lo = Node 0 } ∷ [])
    (Node 2 ∷ State 1 ∷ Node 1 ∷ [])
unfolding arena rows visits_of
lines = refl

-- a node that an earlier row has keeps its number
kept : numbered arena (Place 0 ∷ Place 2 ∷ []) ≡ 0 ∷ 1 ∷ 2 ∷ []
unfolding arena visits_of
kept = refl
