-- The way through a row.
--     child_at letter node          what comes next at a letter
--     leaves_of letter nodes        for each node the state to which the letter leads
--     IsEarlier count child         it is a state, or one of so many first nodes
--     AreOrdered width nodes        each node has a slot of the letters, and its children stand before it
use Rattle.std.specs.Prelude.{ℕ, ◌<◌, Bool, false, if◌then◌else◌, List, [], ◌∷◌, ◌++◌, length, fold, slice_index_or}
use Rattle.dcv_language.specs.declared.child.Child.{Child}
use Rattle.dcv_language.specs.declared.child.Child.TheVariants.{State, Node as AtNode}
use Rattle.dcv_automaton_text.specs.Meaning.{state_at}
use Rattle.dcv_automaton_read.specs.declared.nodes.Node.{Node}

abbrev pub child_at : List Bool → Node → Child
child_at letter node = if slice_index_or letter node.slot false then node.hi else node.lo

unfoldable pub leaves_of : List Bool → List Node → List ℕ
leaves_of letter nodes = fold (λ leaves node. leaves ++ state_at leaves (child_at letter node) ∷ []) [] nodes

abbrev pub IsEarlier : ℕ → Child → Type 0
IsEarlier count (State number) = Unit {0}
IsEarlier count (AtNode number) = number < count

pub record AreOrdered (width : ℕ) (nodes : List Node) : Type 0 where
  pub slots : (place : ℕ) (d : Node) → place < length nodes → (slice_index_or nodes place d).slot < width
  pub his : (place : ℕ) (d : Node) → place < length nodes → IsEarlier place (slice_index_or nodes place d).hi
  pub los : (place : ℕ) (d : Node) → place < length nodes → IsEarlier place (slice_index_or nodes place d).lo
