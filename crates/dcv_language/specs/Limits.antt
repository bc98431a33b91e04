-- How large an automaton and its text may be. The code's constants are these numbers by proof, wherever they are used.
--     most_variables     how many variables a formula, an automaton and an observer may have
--     most_states        how many states an automaton may have, and each step that leads to it
--     most_nodes         how many nodes its rows may have together, and those of each step that leads to it
--     number_bound       the numbers of states are below this: as many bits as the numbers of an observer have
use Rattle.std.specs.Prelude.{ℕ}

abbrev pub most_variables : ℕ
most_variables = 16

abbrev pub most_states : ℕ
most_states = 32000

abbrev pub most_nodes : ℕ
most_nodes = 1000000

abbrev pub number_bound : ℕ
number_bound = 32768
