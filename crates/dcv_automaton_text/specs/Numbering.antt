-- How the nodes of a file are numbered. The states are gone through in order, and the row of each is visited. To visit a node that has no
-- number, the node's child where its variable is false is visited, then the one where it is true, and then the node gets the next number.
-- Here a node is named by its place among the node lines; children stand before their nodes.
--     is_numbered nodes node        whether a node has a number yet; these have one, in order
--     visit_by visits nodes target  the nodes that have a number after the target is visited, given what a visit to each node does
--     visits_of lines               what a visit to each node does, in order
--     numbered_nodes file           the nodes in the order in which they get their numbers
--     IsNumbered file               each node line has the number that its node gets, and each node gets one
use Rattle.std.specs.Prelude.{◌≡◌, ℕ, Bool, nat_eq, if◌then◌else◌, List, [], ◌∷◌, ◌++◌, length, fold, slice_index_or}
use Rattle.std.specs.List.{list_any, range_with_len}
use Rattle.dcv_language.specs.declared.child.Child.{Child}
use Rattle.dcv_language.specs.declared.child.Child.TheVariants.{State, Node}
use Rattle.dcv_automaton_text.specs.File.{NodeLine, StateLine, AutomatonFile}

abbrev pub is_numbered : List ℕ → ℕ → Bool
is_numbered nodes node = list_any (nat_eq node) nodes

abbrev pub visit_by : List (List ℕ → List ℕ) → List ℕ → Child → List ℕ
visit_by visits nodes (State state) = nodes
visit_by visits nodes (Node node) = slice_index_or visits node (λ nodes. nodes) nodes

abbrev pub visit_node : List (List ℕ → List ℕ) → ℕ → NodeLine → List ℕ → List ℕ
visit_node visits node line nodes =
    if is_numbered nodes node then nodes else visit_by visits (visit_by visits nodes line.lo) line.hi ++ node ∷ []

unfoldable pub visits_of : List NodeLine → List (List ℕ → List ℕ)
visits_of lines = fold (λ visits line. visits ++ visit_node visits (length visits) line ∷ []) [] lines

-- at first no node has a number
unfoldable pub numbered_nodes : AutomatonFile → List ℕ
numbered_nodes file = fold (λ nodes (line : StateLine). visit_by (visits_of file.node_lines) nodes line.row) [] file.state_lines

-- the first to get a number is the node of the first line, the next that of the second, and so on to the last line
abbrev pub IsNumbered : AutomatonFile → Type 0
IsNumbered file = numbered_nodes file ≡ range_with_len 0 (length file.node_lines)
