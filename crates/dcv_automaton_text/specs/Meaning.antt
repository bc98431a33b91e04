-- What a file that keeps the table rules stands for.
--     states_at names letter lines    for each node the state that comes next at a letter
--     table_of file                   the table automaton
--     access_words_of file            the access words of the states
--     suffix_words_of file            the suffixes as words
use Rattle.std.specs.Prelude.{ℕ, Bool, false, if◌then◌else◌, List, [], ◌∷◌, ◌++◌, length, map, drop, fold, slice_index_or}
use Rattle.dcv_word.specs.Behaviour.{Word}
use Rattle.dcv_word.specs.Letter.{letters_of_width}
use Rattle.dcv_language.specs.Table.{TableState, Table}
use Rattle.dcv_language.specs.declared.child.Child.{Child}
use Rattle.dcv_language.specs.declared.child.Child.TheVariants.{State, Node}
use Rattle.dcv_automaton_text.specs.File.{NodeLine, StateLine, Access, EmptyAccess, StartAccess, AfterAccess, AccessLine}
use Rattle.dcv_automaton_text.specs.File.{Suffix, EmptySuffix, ThenSuffix, AutomatonFile}
use Rattle.dcv_automaton_text.specs.Rules.{slot_of}

-- ---- the table

-- the state that a target stands for, given those of the nodes
abbrev pub state_at : List ℕ → Child → ℕ
state_at states (State number) = number
state_at states (Node number) = slice_index_or states number 0

-- a node stands for what its child does on the side of the variable's value; its children stand before it
unfoldable pub states_at : List (List ℕ) → List Bool → List NodeLine → List ℕ
states_at names letter lines =
    fold (λ states line. states ++ state_at states (if slice_index_or letter (slot_of names line.name) false then line.hi else line.lo) ∷ []) [] lines

abbrev pub row_of : AutomatonFile → Child → List ℕ
row_of file target = map (λ letter. state_at (states_at file.names letter file.node_lines) target) (letters_of_width (length file.names))

abbrev pub state_of : AutomatonFile → StateLine → TableState
state_of file line = record { accepting = line.accepting; row = row_of file line.row }

unfoldable pub table_of : AutomatonFile → Table
table_of file = map (state_of file) file.state_lines

-- ---- access words

-- given those of other states
abbrev pub access_word_of : List Word → Access → Word
access_word_of words EmptyAccess = []
access_word_of words (StartAccess letter) = letter ∷ []
access_word_of words (AfterAccess state letter) = slice_index_or words state [] ++ letter ∷ []

-- the words of the states after the start go on from earlier ones, and not from the start's; that of the start may go on from any of them
abbrev pub access_words_from : List Access → List Word
access_words_from [] = []
access_words_from (start ∷ others) =
    let words = fold (λ words access. words ++ access_word_of words access ∷ []) ([] ∷ []) others in
    access_word_of words start ∷ drop 1 words

unfoldable pub access_words_of : AutomatonFile → List Word
access_words_of file = access_words_from (map (λ (line : AccessLine). line.access) file.access_lines)

-- ---- suffixes

-- given the earlier ones
abbrev pub suffix_word_of : List Word → Suffix → Word
suffix_word_of earlier EmptySuffix = []
suffix_word_of earlier (ThenSuffix letter suffix) = letter ∷ slice_index_or earlier suffix []

unfoldable pub suffix_words_of : AutomatonFile → List Word
suffix_words_of file = fold (λ earlier line. earlier ++ suffix_word_of earlier line.suffix ∷ []) [] file.suffix_lines
