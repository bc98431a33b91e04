-- The parts of a text of tables as sets of texts.
--     Spellings valid spelled        the spellings of the valid things
--     Then valid spelled Q           the spelling of a valid thing, and then a text of the set that it leads to
--     After word Q                   a word, and then a text of the set
--     Counted end, CountSet lead end     a number and its end, and both after a word
--     CountsSet                      the counts line
--     EntrySet entry, LineSet entry, LinesOf entry count    the numbers of an array: with the comma, with its line, so many lines
--     ArraySet entry integer head count     a whole array
--     NodesSet, StatesSet            the arrays of so many nodes, and of so many states
--     NamesOf count, ParametersSet count    the parameters of a step
--     StepSet integer count some     the functions
use Rattle.std.specs.Prelude.{◌≡◌, ℕ, ◌+◌, ◌<◌, zero, suc, Bool, false, nat_lt, List, [], ◌∷◌, ◌++◌, length, map, codes}
use Rattle.std.specs.Fmt.{decimal}
use Rattle.std.specs.List.{All}
use Rattle.dcv_tokens.specs.Tokens.{is_word_byte}
use Rattle.dcv_automaton_text.specs.Form.{IsNumber}
use Rattle.dcv_automaton_lines.specs.Pieces.{Nothing}
use Rattle.dcv_observer.specs.Layouts.{Each}
use Rattle.dcv_c_tables.specs.Unit.{TableNode, TableState}
use Rattle.dcv_c_tables.specs.Observer.{parameter_name}
use Rattle.dcv_c_tables.specs.Layout.{text_in, type_for, counts_line, number_line, array_lines, node_arrays, state_arrays}
use Rattle.dcv_c_tables.specs.Layout.{reset_lines, parameters_layout, body_lines}
use Rattle.dcv_tables_read.specs.Form.{IsSmallNode, IsSmallState, IsNameWord}
use Rattle.dcv_tables_read.specs.declared.entries.Entry.{Entry}
use Rattle.dcv_tables_read.specs.declared.entries.Entry.TheVariants.{Number, Answer}

pub record Spellings {X : Type 0} (valid : X → Type 0) (spelled : X → List ℕ) (text : List ℕ) : Type 0 where
  pub item : X
  pub valid_item : valid item
  pub is : text ≡ spelled item

pub record Then {X : Type 0} (valid : X → Type 0) (spelled : X → List ℕ) (Q : X → List ℕ → Type 0) (text : List ℕ) : Type 0 where
  pub item : X
  pub valid_item : valid item
  pub back : List ℕ
  pub back_is : Q item back
  pub whole : text ≡ spelled item ++ back

pub record After (word : List ℕ) (Q : List ℕ → Type 0) (text : List ℕ) : Type 0 where
  pub back : List ℕ
  pub back_is : Q back
  pub whole : text ≡ word ++ back

-- no two valid things have spellings of which one begins a text with the other
abbrev pub IsUnique : {X : Type 0} → (X → Type 0) → (X → List ℕ) → Type 0
IsUnique {X = X} valid spelled = (x y : X) (a b : List ℕ) → valid x → valid y → spelled x ++ a ≡ spelled y ++ b → x ≡ y

-- ---- the counts line

abbrev pub ended : ℕ → ℕ → List ℕ
ended end number = decimal number ++ end ∷ []

abbrev pub Counted : ℕ → List ℕ → Type 0
Counted end = Spellings IsNumber (ended end)

abbrev pub count_text : List ℕ → ℕ → ℕ → List ℕ
count_text lead end number = lead ++ ended end number

abbrev pub CountSet : List ℕ → ℕ → List ℕ → Type 0
CountSet lead end = Spellings IsNumber (count_text lead end)

pub record CountsValue : Type 0 where
  pub states : ℕ
  pub nodes : ℕ
  pub variables : ℕ

pub record AreCounts (counts : CountsValue) : Type 0 where
  pub states : IsNumber counts.states
  pub nodes : IsNumber counts.nodes
  pub variables : IsNumber counts.variables

abbrev pub counts_text : CountsValue → List ℕ
counts_text counts = text_in (counts_line counts.states counts.nodes counts.variables)

abbrev pub CountsSet : List ℕ → Type 0
CountsSet = Spellings AreCounts counts_text

-- ---- arrays

-- a number of seven digits at most, or 0 or 1
abbrev pub IsEntry : Entry → ℕ → Type 0
IsEntry Number = IsNumber
IsEntry Answer = λ number. number < 2

abbrev pub EntrySet : Entry → List ℕ → Type 0
EntrySet entry = Spellings (IsEntry entry) (ended 44)

abbrev pub line_text : ℕ → List ℕ
line_text number = text_in (number_line number)

abbrev pub LineSet : Entry → List ℕ → Type 0
LineSet entry = Spellings (IsEntry entry) line_text

abbrev pub LinesOf : Entry → ℕ → List ℕ → Type 0
LinesOf entry zero = Nothing
LinesOf entry (suc count) = Then (IsEntry entry) line_text (λ _. LinesOf entry count)

pub record AreEntries (entry : Entry) (count : ℕ) (numbers : List ℕ) : Type 0 where
  pub many : length numbers ≡ count
  pub each : All (IsEntry entry) numbers

abbrev pub lines_text : List ℕ → List ℕ
lines_text numbers = text_in (Each number_line numbers)

abbrev pub array_text : List ℕ → List ℕ → List ℕ → List ℕ
array_text integer head numbers = text_in (array_lines integer head (Each number_line numbers))

abbrev pub ArraySet : Entry → List ℕ → List ℕ → ℕ → List ℕ → Type 0
ArraySet entry integer head count = Spellings (AreEntries entry count) (array_text integer head)

pub record AreNodes (count : ℕ) (nodes : List TableNode) : Type 0 where
  pub many : length nodes ≡ count
  pub each : All IsSmallNode nodes

abbrev pub nodes_text : List ℕ → List TableNode → List ℕ
nodes_text integer nodes = text_in (node_arrays integer nodes)

abbrev pub NodesSet : List ℕ → ℕ → List ℕ → Type 0
NodesSet integer count = Spellings (AreNodes count) (nodes_text integer)

pub record AreStates (count : ℕ) (states : List TableState) : Type 0 where
  pub many : length states ≡ count
  pub each : All IsSmallState states

abbrev pub states_text : List ℕ → List TableState → List ℕ
states_text integer states = text_in (state_arrays integer states)

abbrev pub StatesSet : List ℕ → ℕ → List ℕ → Type 0
StatesSet integer count = Spellings (AreStates count) (states_text integer)

-- ---- functions

pub record AreNames (count : ℕ) (names : List (List ℕ)) : Type 0 where
  pub many : length names ≡ count
  pub each : All IsNameWord names

-- what stands after a name with so many behind it
abbrev pub after_name : ℕ → List ℕ
after_name zero = codes ")\n{\n"
after_name (suc more) = codes ", int v_"

-- not empty, and its first byte is none of a name
abbrev pub StopsNames : List ℕ → Type 0
StopsNames [] = ⊥
StopsNames (b ∷ behind) = is_word_byte b ≡ false

abbrev pub NameSet : List ℕ → List ℕ → Type 0
NameSet behind = Spellings IsNameWord (λ name. name ++ behind)

abbrev pub NamesOf : ℕ → List ℕ → Type 0
NamesOf zero = Nothing
NamesOf (suc count) = Then IsNameWord (λ name. name ++ after_name count) (λ _. NamesOf count)

abbrev pub names_text : List (List ℕ) → List ℕ
names_text [] = []
names_text (name ∷ names) = (name ++ after_name (length names)) ++ names_text names

abbrev pub parameters_text : List (List ℕ) → List ℕ
parameters_text names = text_in (parameters_layout (map parameter_name names)) ++ codes ")\n{\n"

abbrev pub ParametersSet : ℕ → List ℕ → Type 0
ParametersSet count = Spellings (AreNames count) parameters_text

abbrev pub body_text : List ℕ → Bool → List (List ℕ) → List ℕ
body_text integer some names = text_in (body_lines integer (map parameter_name names) some)

abbrev pub step_text : List ℕ → Bool → List (List ℕ) → List ℕ
step_text integer some names = text_in (reset_lines integer) ++ (parameters_text names ++ body_text integer some names)

abbrev pub StepSet : List ℕ → Bool → ℕ → List ℕ → Type 0
StepSet integer some count = Spellings (AreNames count) (step_text integer some)

-- ---- the whole

abbrev pub integer_of : CountsValue → List ℕ
integer_of counts = type_for (counts.states + counts.nodes)

abbrev pub AfterNodes : CountsValue → List ℕ → Type 0
AfterNodes counts =
    Then (AreStates counts.states) (states_text (integer_of counts)) (λ _. StepSet (integer_of counts) (nat_lt 0 counts.nodes) counts.variables)

abbrev pub AfterCounts : CountsValue → List ℕ → Type 0
AfterCounts counts = Then (AreNodes counts.nodes) (nodes_text (integer_of counts)) (λ _. AfterNodes counts)

abbrev pub UnitSet : List ℕ → Type 0
UnitSet = Then AreCounts counts_text AfterCounts
