-- What a unit of tables does. It keeps a state from one step to the next: reset makes it 0. A step begins at the row of the state and goes on,
-- from a node to one of the two places that it names, until it is at a state, which is kept; it answers whether that state accepts.
--     next_place tables letter place        the place after a node
--     walked tables letter most place       the place after so many nodes at most
--     nodes_on tables letter most place     the places of the nodes on the way there
--     state_by tables letter state          the state after a step
--     nodes_from tables letter state        the places of the nodes that it looks at
--     answer_of tables state                what a step returns that arrives there
--     answer_after tables word              what the last step of a word returns
--     tables_accept tables                  the words whose last step returns another number than 0
-- A unit that keeps the rules has a step end at a state after at most as many nodes as there are.
use Rattle.std.specs.Prelude.{ℕ, zero, suc, ◌-◌, Bool, false, not, nat_eq, nat_lt, if◌then◌else◌, List, [], ◌∷◌, length, slice_index_or}
use Rattle.dcv_word.specs.Behaviour.{Word}
use Rattle.dcv_language.specs.Language.{Language}
use Rattle.dcv_language.specs.Automaton.{Automaton, state_after}
use Rattle.dcv_c_tables.specs.Unit.{Tables, no_node, no_state}

-- ---- a step

abbrev pub next_place : Tables → List Bool → ℕ → ℕ
next_place tables letter place =
    let node = slice_index_or tables.nodes (place - length tables.states) no_node in
    if slice_index_or letter node.variable false then node.high else node.low

abbrev pub walked : Tables → List Bool → ℕ → ℕ → ℕ
walked tables letter zero place = place
walked tables letter (suc most) place =
    if nat_lt place (length tables.states) then place else walked tables letter most (next_place tables letter place)

abbrev pub nodes_on : Tables → List Bool → ℕ → ℕ → List ℕ
nodes_on tables letter zero place = []
nodes_on tables letter (suc most) place =
    if nat_lt place (length tables.states) then [] else (place ∷ nodes_on tables letter most (next_place tables letter place))

abbrev pub state_by : Tables → List Bool → ℕ → ℕ
state_by tables letter state = walked tables letter (length tables.nodes) (slice_index_or tables.states state no_state).row

abbrev pub nodes_from : Tables → List Bool → ℕ → List ℕ
nodes_from tables letter state = nodes_on tables letter (length tables.nodes) (slice_index_or tables.states state no_state).row

abbrev pub answer_of : Tables → ℕ → ℕ
answer_of tables state = if (slice_index_or tables.states state no_state).accepts then 1 else 0

-- ---- words

pub record TablesState : Type 0 where
  pub state : ℕ
  -- by the last step, and 0 before the first
  pub returned : ℕ

abbrev pub stepped : Tables → ℕ → List Bool → TablesState
stepped tables state letter =
    let next = state_by tables letter state in
    record { state = next; returned = answer_of tables next }

abbrev pub automaton_of_tables : Tables → Automaton TablesState
automaton_of_tables tables =
    record {
      start = record { state = 0; returned = 0 };
      next = λ at letter. stepped tables at.state letter;
      accepting = λ at. not (nat_eq at.returned 0);
    }

abbrev pub answer_after : Tables → Word → ℕ
answer_after tables word = (state_after (automaton_of_tables tables) word).returned

abbrev pub tables_accept : Tables → Language
tables_accept tables word = not (nat_eq (answer_after tables word) 0)
