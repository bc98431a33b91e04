-- How clauses see what is read.
--     texts_of names                  the bytes of names
--     target                 what comes next, as it is kept
--     node_of names line              the node of a line
--     same_node one other             whether nodes are the same
--     child_kept states nodes ..      whether a child is a state that there is, or one of these nodes with a later variable
--     IsAdded nodes node kept more    whether a node may be added, and the nodes with it where it may
--     AreNodesOf file count nodes     these are the nodes of so many of the first lines, and their variables are listed
--     IsJudgedText file answer        the answer is the table fault, or there is none
use Rattle.std.specs.Prelude.{◌≡◌, ℕ, Bool, true, not, ◌&&◌, nat_eq, nat_lt, List, [], ◌∷◌, ◌++◌, length, map, take, slice_index_or, Result, Ok, Err}
use Rattle.std.specs.List.{All, list_any}
use Rattle.std.specs.Borrow.{Bor}
use Rattle.dcv_language.specs.Limits.{most_nodes}
use Rattle.dcv_automaton_text.specs.File.{NodeLine, AutomatonFile}
use Rattle.dcv_automaton_text.specs.Rules.{slot_of, is_listed, IsTableFault, IsGood, is_same_target}
use Rattle.dcv_language.specs.declared.child.Child.{Child}
use Rattle.dcv_language.specs.declared.child.Child.TheVariants.{State, Node as AtNode}
use Rattle.dcv_automaton_read.specs.declared.nodes.Node.{Node}
use Rattle.dcv_automaton_read.specs.declared.faults.AutoFault.{AutoFault}
use Rattle.dcv_automaton_read.specs.declared.faults.AutoFault.TheVariants.{Syntax, Table, Memory}

abbrev pub texts_of : List (Bor (List ℕ)) → List (List ℕ)
texts_of names = map (λ name. name.now) names

abbrev pub node_of : List (List ℕ) → NodeLine → Node
node_of names line = record { slot = slot_of names line.name; hi = line.hi; lo = line.lo }

abbrev pub same_node : Node → Node → Bool
same_node node other = nat_eq node.slot other.slot && is_same_target node.hi other.hi && is_same_target node.lo other.lo

abbrev pub slots_of : List Node → List ℕ
slots_of nodes = map (λ (node : Node). node.slot) nodes

abbrev pub child_kept : ℕ → List Node → ℕ → Child → Bool
child_kept states nodes slot (State number) = nat_lt number states
child_kept states nodes slot (AtNode number) = nat_lt number (length nodes) && nat_lt slot (slice_index_or (slots_of nodes) number 0)

-- there are not too many, and it is none of them
pub record IsAdded (nodes : List Node) (node : Node) (kept : Bool) (more : List Node) : Type 0 where
  pub flag : kept ≡ (nat_lt (length nodes) most_nodes && not (list_any (same_node node) nodes))
  pub added : kept ≡ true → more ≡ nodes ++ node ∷ []

pub record AreNodesOf (file : AutomatonFile) (count : ℕ) (nodes : List Node) : Type 0 where
  pub same : nodes ≡ map (node_of file.names) (take count file.node_lines)
  pub listed : All (λ (line : NodeLine). is_listed file.names line.name ≡ true) (take count file.node_lines)

abbrev pub IsJudgedText : {Whole : Type 0} → AutomatonFile → Result Whole AutoFault → Type 0
IsJudgedText file (Ok whole) = IsGood file
IsJudgedText file (Err (Syntax at)) = ⊥
IsJudgedText file (Err (Table at)) = IsTableFault file at
IsJudgedText file (Err Memory) = Unit {0}
