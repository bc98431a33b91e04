-- How a file is spelled: words with one space between every two, and a line feed at the end of each line.
--     node_words line ..      the words of a line
--     version_word file       the version of a file's text, by whether it has a step part
--     front_lines file        the lines before the step part, each as its words
--     step_part steps         those of the step part
--     lines_of file           all lines of a file
--     spelled file            the bytes of its text
--     spelled_front file      those before the step part, or before the last line where there is none
use Rattle.std.specs.Prelude.{ℕ, Bool, if◌then◌else◌, List, [], ◌∷◌, ◌++◌, Option, None, Some, map, codes}
use Rattle.std.specs.Fmt.{decimal}
use Rattle.std.specs.List.{flat_map, join_with_byte}
use Rattle.std.specs.Str.{byte}
use Rattle.dcv_word.specs.TraceLine.{trace_line}
use Rattle.dcv_language.specs.VerdictText.{line}
use Rattle.dcv_language.specs.declared.child.Child.{Child}
use Rattle.dcv_language.specs.declared.child.Child.TheVariants.{State, Node}
use Rattle.dcv_automaton_text.specs.File.{NodeLine, StateLine, Access, EmptyAccess, StartAccess, AfterAccess, AccessLine}
use Rattle.dcv_automaton_text.specs.File.{Suffix, EmptySuffix, ThenSuffix, SuffixLine, StepLine, StepPart, AutomatonFile}

-- ---- words

abbrev pub node_word : ℕ → List ℕ
node_word number = byte "n" ∷ decimal number

abbrev pub target_word : Child → List ℕ
target_word (State number) = byte "t" ∷ decimal number
target_word (Node number) = node_word number

abbrev pub answer_word : Bool → List ℕ
answer_word accepting = if accepting then codes "accept" else codes "reject"

-- ---- lines

-- the names, or a dash where there are none
abbrev pub name_words : List (List ℕ) → List (List ℕ)
name_words [] = codes "-" ∷ []
name_words (name ∷ names) = name ∷ names

abbrev pub node_words : NodeLine → List (List ℕ)
node_words line = codes "node" ∷ node_word line.number ∷ line.name ∷ codes "?" ∷ target_word line.hi ∷ codes ":" ∷ target_word line.lo ∷ []

abbrev pub state_words : StateLine → List (List ℕ)
state_words line = codes "state" ∷ decimal line.number ∷ answer_word line.accepting ∷ target_word line.row ∷ []

abbrev pub how_access : Access → List (List ℕ)
how_access EmptyAccess = codes "empty" ∷ []
how_access (StartAccess letter) = codes "start" ∷ trace_line letter ∷ []
how_access (AfterAccess state letter) = decimal state ∷ trace_line letter ∷ []

abbrev pub access_words : AccessLine → List (List ℕ)
access_words line = codes "access" ∷ decimal line.number ∷ how_access line.access

abbrev pub how_suffix : Suffix → List (List ℕ)
how_suffix EmptySuffix = codes "empty" ∷ []
how_suffix (ThenSuffix letter suffix) = trace_line letter ∷ decimal suffix ∷ []

abbrev pub suffix_words : SuffixLine → List (List ℕ)
suffix_words line = codes "suffix" ∷ decimal line.number ∷ how_suffix line.suffix

abbrev pub step_words : StepLine → List (List ℕ)
step_words line =
    codes "step" ∷ decimal line.number ∷ codes "at" ∷ decimal line.at ∷ codes "states" ∷ decimal line.states ∷ codes "nodes" ∷ decimal line.nodes ∷ []

abbrev pub steps_words : StepPart → List (List ℕ)
steps_words part = codes "steps" ∷ decimal part.count ∷ []

-- ---- the file

abbrev pub version_word : Option StepPart → List ℕ
version_word None = codes "1"
version_word (Some part) = codes "2"

abbrev pub head_lines : AutomatonFile → List (List (List ℕ))
head_lines file = (codes "automaton" ∷ version_word file.steps ∷ []) ∷ (codes "variables" ∷ name_words file.names) ∷ (codes "states" ∷ decimal file.states ∷ []) ∷ []

unfoldable pub front_lines : AutomatonFile → List (List (List ℕ))
front_lines file =
    head_lines file
    ++ (map node_words file.node_lines
    ++ (map state_words file.state_lines
    ++ (map access_words file.access_lines
    ++ map suffix_words file.suffix_lines)))

abbrev pub step_part : Option StepPart → List (List (List ℕ))
step_part None = []
step_part (Some part) = steps_words part ∷ map step_words part.lines

abbrev pub end_lines : List (List (List ℕ))
end_lines = (codes "end" ∷ []) ∷ []

unfoldable pub lines_of : AutomatonFile → List (List (List ℕ))
lines_of file =
    head_lines file
    ++ (map node_words file.node_lines
    ++ (map state_words file.state_lines
    ++ (map access_words file.access_lines
    ++ (map suffix_words file.suffix_lines
    ++ (step_part file.steps ++ end_lines)))))

abbrev pub spelled_line : List (List ℕ) → List ℕ
spelled_line words = line (join_with_byte (byte " ") words)

unfoldable pub spelled : AutomatonFile → List ℕ
spelled file = flat_map spelled_line (lines_of file)

unfoldable pub spelled_front : AutomatonFile → List ℕ
spelled_front file = flat_map spelled_line (front_lines file)
