-- Where the names of a controller's unit stand while it is made: the static first, then the inputs, then the locals.
--     unit_names names nexts outputs            the names of a unit with so many nodes of both kinds, in order
--     StandAt all first count name              so many names stand there, one after another
--     HasNames names outputs places all         each name stands at its place
--     AreFitting slots all                      the lines' variables are among so many, and what they and the rows name is there
use Rattle.std.specs.Prelude.{◌≡◌, ℕ, ◌+◌, ◌<◌, ◌≤◌, List, ◌∷◌, ◌++◌, length, map}
use Rattle.std.specs.Fmt.{decimal}
use Rattle.std.specs.List.{All}
use Rattle.dcv_language.specs.Limits.{most_nodes, number_bound}
use Rattle.dcv_dfa.specs.NodeLines.{NodeLinesValue, IsBelow}
use Rattle.dcv_automaton_file.specs.File.{Fits}
use Rattle.dcv_c.specs.Seen.{name_at}
use Rattle.dcv_c.specs.Observer.{state_name, next_name, node_name, parameter_name}
use Rattle.dcv_synth.specs.Units.{output_name, output_node_name, input_name, local_names}
use Rattle.dcv_synth.specs.declared.statements.Places.{Places}

-- a letter and a number
abbrev pub numbered : ℕ → ℕ → List ℕ
numbered letter number = letter ∷ decimal number

abbrev pub unit_names : List (List ℕ) → ℕ → ℕ → List (List ℕ)
unit_names names nexts outputs = state_name ∷ map parameter_name names ++ local_names nexts outputs

abbrev pub StandAt : List (List ℕ) → ℕ → ℕ → (ℕ → List ℕ) → Type 0
StandAt all first count name = (number : ℕ) → number < count → name_at all (first + number) ≡ name number

pub record HasNames (names : List (List ℕ)) (outputs : ℕ) (places : Places) (all : List (List ℕ)) : Type 0 where
  pub count : length names ≡ places.inputs
  pub state : name_at all 0 ≡ state_name
  pub inputs : StandAt all 1 (length names) (input_name names)
  pub next : name_at all (places.inputs + 1) ≡ next_name
  pub output : name_at all (places.inputs + 2) ≡ output_name
  pub next_nodes : StandAt all (places.inputs + 3) places.nexts node_name
  pub output_nodes : StandAt all (places.inputs + 3 + places.nexts) outputs output_node_name

-- few enough that the places are numbers of the code
pub record AreFew (places : Places) : Type 0 where
  pub inputs : places.inputs ≤ 16
  pub nexts : places.nexts ≤ most_nodes

pub record AreFitting (slots : ℕ) (all : NodeLinesValue) : Type 0 where
  pub few : length all.lines ≤ most_nodes
  pub lines : All (Fits slots (length all.lines)) all.lines
  pub rows : All (IsBelow number_bound (length all.lines)) all.rows
