-- The parts of a file, each word with whether it keeps the rules.
--     judged_lines words keeps place lines       the words of lines of which the first stands at this place
--     judged_names names                         the words of the names
--     judged_head file ..                        the words of the lines of each section
use Rattle.std.specs.Prelude.{ℕ, Bool, List}
use Rattle.std.specs.List.{enumerate_from, flat_map, zip}
use Rattle.dcv_automaton_text.specs.File.{StepPart, AutomatonFile}
use Rattle.dcv_automaton_text.specs.Rules.{keeps_names, keeps_head, keeps_node, keeps_state, keeps_access, keeps_suffix, keeps_step, judged}
use Rattle.dcv_automaton_text.specs.Spelled.{name_words, head_lines, node_words, state_words, access_words, suffix_words, step_words}

abbrev pub judged_lines : {Line : Type 0} → (Line → List (List ℕ)) → (ℕ → Line → List Bool) → ℕ → List Line → List (List ℕ × Bool)
judged_lines words keeps place lines = flat_map (λ numbered. zip (words numbered.1) (keeps numbered.0 numbered.1)) (enumerate_from place lines)

abbrev pub judged_names : List (List ℕ) → List (List ℕ × Bool)
judged_names names = zip (name_words names) (keeps_names names)

abbrev pub judged_head : AutomatonFile → List (List ℕ × Bool)
judged_head file = flat_map (λ line. zip line.0 line.1) (zip (head_lines file) (keeps_head file))

abbrev pub judged_nodes : AutomatonFile → List (List ℕ × Bool)
judged_nodes file = judged node_words (keeps_node file) file.node_lines

abbrev pub judged_states : AutomatonFile → List (List ℕ × Bool)
judged_states file = judged state_words (keeps_state file) file.state_lines

abbrev pub judged_access : AutomatonFile → List (List ℕ × Bool)
judged_access file = judged access_words (keeps_access file) file.access_lines

abbrev pub judged_suffixes : AutomatonFile → List (List ℕ × Bool)
judged_suffixes file = judged suffix_words (keeps_suffix file) file.suffix_lines

abbrev pub judged_step_lines : StepPart → List (List ℕ × Bool)
judged_step_lines part = judged step_words (keeps_step part) part.lines
