-- The table rules, by which a file of the form stands for an automaton. Each word of the text keeps them or breaks one of them. What they
-- ask of the automaton stands in `GoodFile`, and `good_files_in_words` proves that it is the same.
--     most_steps, most_start                 how many steps there may be, and where the last of them may start
--     AreNames names                         these may be the names of the variables
--     keeps_name file place name ..          whether each word of a line at this place keeps the rules, in the order of its words
--     judged_words file                      each word of the text, and whether it keeps the rules
--     first_broken at words                  the offset of the first that does not, where the words begin at an offset
--     IsTableFault file at                   the first word that breaks a rule begins at this offset
--     IsGood file                            there is none
use Rattle.std.specs.Prelude.{◌≡◌, ◌≢◌, ℕ, ◌+◌, ◌≤◌, Bool, true, false, not, IsTrue, ◌&&◌, ◌||◌, nat_eq, nat_lt, nat_le, if◌then◌else◌}
use Rattle.std.specs.Prelude.{List, [], ◌∷◌, ◌++◌, Option, Some, None, length, map, take, slice_index_or, bytes_eq}
use Rattle.std.specs.List.{All, AllPairs, flat_map, list_any, position_or_len, enumerate_from, zip}
use Rattle.dcv_tokens.specs.Tokens.{is_name}
use Rattle.dcv_tokens.specs.Limits.{longest_word}
use Rattle.dcv_language.specs.Limits.{most_variables, most_states, most_nodes}
use Rattle.dcv_language.specs.declared.child.Child.{Child}
use Rattle.dcv_language.specs.declared.child.Child.TheVariants.{State, Node}
use Rattle.dcv_automaton_text.specs.File.{NodeLine, StateLine, Access, EmptyAccess, StartAccess, AfterAccess, AccessLine}
use Rattle.dcv_automaton_text.specs.File.{Suffix, EmptySuffix, ThenSuffix, SuffixLine, StepLine, StepPart, AutomatonFile}
use Rattle.dcv_automaton_text.specs.Spelled.{node_words, state_words, access_words, suffix_words, step_words, steps_words, head_lines, end_lines}

-- as many as a requirement of the greatest size has, and a place in a source of 262,144 bytes
abbrev pub most_steps : ℕ
most_steps = 131168

abbrev pub most_start : ℕ
most_start = 262143

-- ---- variables

-- the place of a name among the variables
abbrev pub slot_of : List (List ℕ) → List ℕ → ℕ
slot_of names name = position_or_len (bytes_eq name) names

abbrev pub is_listed : List (List ℕ) → List ℕ → Bool
is_listed names name = list_any (bytes_eq name) names

-- a name that is not too long, not too many, and not one of the names before it
abbrev pub keeps_name : List (List ℕ) → ℕ → List ℕ → Bool
keeps_name names place name = nat_lt place most_variables && is_name name && nat_le (length name) longest_word && not (is_listed (take place names) name)

pub record IsPlainName (name : List ℕ) : Type 0 where
  pub form : IsTrue (is_name name)
  pub short : length name ≤ longest_word

-- names that keep the rules
pub record AreNames (names : List (List ℕ)) : Type 0 where
  pub count : length names ≤ most_variables
  pub each : All IsPlainName names
  pub differ : AllPairs ◌≢◌ names

-- ---- nodes

-- the variable's place of the node with this number
abbrev pub slot_of_node : AutomatonFile → ℕ → ℕ
slot_of_node file number = slot_of file.names (slice_index_or (map (λ (line : NodeLine). line.name) file.node_lines) number [])

-- a state that there is, or an earlier node with a later variable
abbrev pub keeps_child : AutomatonFile → ℕ → Child → Bool
keeps_child file place (State number) = nat_lt number file.states
keeps_child file place (Node number) = nat_lt number place && nat_lt (slot_of_node file place) (slot_of_node file number)

abbrev pub is_same_target : Child → Child → Bool
is_same_target (State number) (State other) = nat_eq number other
is_same_target (State number) (Node other) = false
is_same_target (Node number) (State other) = false
is_same_target (Node number) (Node other) = nat_eq number other

-- the same variable, and the same children
abbrev pub is_same_node : NodeLine → NodeLine → Bool
is_same_node line other = bytes_eq line.name other.name && is_same_target line.hi other.hi && is_same_target line.lo other.lo

abbrev pub keeps_node : AutomatonFile → ℕ → NodeLine → List Bool
keeps_node file place line =
    -- `node`: there are not too many, and this is none of the earlier ones
    (nat_lt place most_nodes && not (list_any (is_same_node line) (take place file.node_lines)))
    ∷ nat_eq line.number place ∷ is_listed file.names line.name
    -- `?`, and what comes next where the variable is true
    ∷ true ∷ keeps_child file place line.hi
    -- `:`, and what comes next where it is false, which is something else
    ∷ true ∷ (keeps_child file place line.lo && not (is_same_target line.hi line.lo)) ∷ []

-- ---- states

-- a state or a node that there is
abbrev pub keeps_row : AutomatonFile → Child → Bool
keeps_row file (State number) = nat_lt number file.states
keeps_row file (Node number) = nat_lt number (length file.node_lines)

abbrev pub keeps_state : AutomatonFile → ℕ → StateLine → List Bool
keeps_state file place line =
    -- `state`: there are not too many
    nat_lt place file.states
    -- the number, `accept` or `reject`, and the row
    ∷ nat_eq line.number place ∷ true ∷ keeps_row file line.row ∷ []

-- ---- access words and suffixes

abbrev pub has_width : AutomatonFile → List Bool → Bool
has_width file letter = nat_eq (length letter) (length file.names)

-- the word of the start may go on from that of any other state, and the word of any other state from an earlier one that is not the start's
abbrev pub goes_before : AutomatonFile → ℕ → ℕ → Bool
goes_before file place state = nat_lt 0 state && nat_lt state file.states && (nat_eq place 0 || nat_lt state place)

abbrev pub keeps_how_access : AutomatonFile → ℕ → Access → List Bool
keeps_how_access file place EmptyAccess = nat_eq place 0 ∷ []
keeps_how_access file place (StartAccess letter) = true ∷ has_width file letter ∷ []
keeps_how_access file place (AfterAccess state letter) = goes_before file place state ∷ has_width file letter ∷ []

abbrev pub has_all_states : AutomatonFile → Bool
has_all_states file = nat_le file.states (length file.state_lines)

abbrev pub keeps_access : AutomatonFile → ℕ → AccessLine → List Bool
keeps_access file place line =
    -- `access`: there are enough states, and not too many access words
    (has_all_states file && nat_lt place file.states)
    ∷ nat_eq line.number place ∷ keeps_how_access file place line.access

abbrev pub has_all_access : AutomatonFile → Bool
has_all_access file = has_all_states file && nat_le file.states (length file.access_lines)

abbrev pub keeps_how_suffix : AutomatonFile → ℕ → Suffix → List Bool
keeps_how_suffix file place EmptySuffix = nat_eq place 0 ∷ []
keeps_how_suffix file place (ThenSuffix letter suffix) = (nat_lt 0 place && has_width file letter) ∷ nat_lt suffix place ∷ []

abbrev pub keeps_suffix : AutomatonFile → ℕ → SuffixLine → List Bool
keeps_suffix file place line =
    -- `suffix`: there are enough states and access words
    has_all_access file
    ∷ nat_eq line.number place ∷ keeps_how_suffix file place line.suffix

-- ---- steps

abbrev pub keeps_steps : AutomatonFile → StepPart → List Bool
keeps_steps file part =
    -- `steps`: there are enough states and access words
    has_all_access file
    ∷ nat_le part.count most_steps ∷ []

abbrev pub keeps_step : StepPart → ℕ → StepLine → List Bool
keeps_step part place line =
    -- `step`: there are not too many
    nat_lt place part.count
    ∷ nat_eq line.number place
    -- `at`, and where the step stands
    ∷ true ∷ nat_le line.at most_start
    -- `states`, of which there is a start, and `nodes`
    ∷ true ∷ (nat_lt 0 line.states && nat_le line.states most_states)
    ∷ true ∷ nat_le line.nodes most_nodes ∷ []

abbrev pub has_all_steps : Option StepPart → Bool
has_all_steps None = true
has_all_steps (Some part) = nat_le part.count (length part.lines)

-- ---- the file

-- the words of lines, each with whether it keeps the rules
abbrev pub judged : {Line : Type 0} → (Line → List (List ℕ)) → (ℕ → Line → List Bool) → List Line → List (List ℕ × Bool)
judged words keeps lines = flat_map (λ numbered. zip (words numbered.1) (keeps numbered.0 numbered.1)) (enumerate_from 0 lines)

abbrev pub keeps_names : List (List ℕ) → List Bool
keeps_names [] = true ∷ []
keeps_names (name ∷ names) = map (λ numbered. keeps_name (name ∷ names) numbered.0 numbered.1) (enumerate_from 0 (name ∷ names))

-- `automaton` and the version, `variables` with the names, and `states` with their number
abbrev pub keeps_head : AutomatonFile → List (List Bool)
keeps_head file = (true ∷ true ∷ []) ∷ (true ∷ keeps_names file.names) ∷ (true ∷ (nat_lt 0 file.states && nat_le file.states most_states) ∷ []) ∷ []

abbrev pub judged_steps : AutomatonFile → Option StepPart → List (List ℕ × Bool)
judged_steps file None = []
judged_steps file (Some part) = zip (steps_words part) (keeps_steps file part) ++ judged step_words (keeps_step part) part.lines

unfoldable pub judged_words : AutomatonFile → List (List ℕ × Bool)
judged_words file =
    flat_map (λ line. zip line.0 line.1) (zip (head_lines file) (keeps_head file))
    ++ (judged node_words (keeps_node file) file.node_lines
    ++ (judged state_words (keeps_state file) file.state_lines
    ++ (judged access_words (keeps_access file) file.access_lines
    ++ (judged suffix_words (keeps_suffix file) file.suffix_lines
    ++ (judged_steps file file.steps
    -- `end`: there are enough states, access words and steps
    ++ flat_map (λ line. zip line ((has_all_access file && has_all_steps file.steps) ∷ [])) end_lines)))))

-- one byte stands after each word, a space or a line feed
abbrev pub first_broken : ℕ → List (List ℕ × Bool) → Option ℕ
first_broken at [] = None
first_broken at (word ∷ words) = if word.1 then first_broken (at + length word.0 + 1) words else Some at

abbrev pub IsTableFault : AutomatonFile → ℕ → Type 0
IsTableFault file at = first_broken 0 (judged_words file) ≡ Some at

abbrev pub IsGood : AutomatonFile → Type 0
IsGood file = first_broken 0 (judged_words file) ≡ None
