-- Lines of nodes and rows in the one way in which they are written. The rows are gone through in order, and each is visited. To visit a node
-- that has no number, the node's child where its variable is false is visited, then the one where it is true, and then the node gets the next
-- number. Here a node is named by its place among the lines; children stand before their nodes.
--     visits_of lines                what a visit to each node does, in order
--     numbered_lines all             the nodes in the order in which they get their numbers
--     AreNumbered all                each line has the number that its node gets, and each node gets one
--     AreListed slots bound size all    they are a reduced diagram of so many rows with numbers below the bound, numbered so, and not too many
--     number_in all place letter     the number for which the row at this place stands at a letter
use Rattle.std.specs.Prelude.{◌≡◌, ℕ, ◌≤◌, Bool, if◌then◌else◌, List, [], ◌∷◌, ◌++◌, length, fold, slice_index_or}
use Rattle.std.specs.List.{range_with_len}
use Rattle.dcv_language.specs.Limits.{most_nodes}
use Rattle.dcv_language.specs.declared.child.Child.TheVariants.{State}
use Rattle.dcv_dfa.specs.declared.node_lines.NodeLine.{NodeLine}
use Rattle.dcv_dfa.specs.NodeLines.{NodeLinesValue, AreReducedRows, state_at, states_at}
use Rattle.dcv_automaton_text.specs.Numbering.{is_numbered, visit_by}

abbrev pub visit_node : List (List ℕ → List ℕ) → ℕ → NodeLine → List ℕ → List ℕ
visit_node visits node line nodes =
    if is_numbered nodes node then nodes else visit_by visits (visit_by visits nodes line.lo) line.hi ++ node ∷ []

unfoldable pub visits_of : List NodeLine → List (List ℕ → List ℕ)
visits_of lines = fold (λ visits line. visits ++ visit_node visits (length visits) line ∷ []) [] lines

-- at first no node has a number
abbrev pub numbered_lines : NodeLinesValue → List ℕ
numbered_lines all = fold (visit_by (visits_of all.lines)) [] all.rows

-- the first to get a number is the node of the first line, the next that of the second, and so on to the last line
abbrev pub AreNumbered : NodeLinesValue → Type 0
AreNumbered all = numbered_lines all ≡ range_with_len 0 (length all.lines)

pub record AreListed (slots bound size : ℕ) (all : NodeLinesValue) : Type 0 where
  pub reduced : AreReducedRows slots bound size all
  pub numbered : AreNumbered all
  pub few : length all.lines ≤ most_nodes

abbrev pub number_in : NodeLinesValue → ℕ → List Bool → ℕ
number_in all place letter = state_at (states_at letter all.lines) (slice_index_or all.rows place (State 0))
