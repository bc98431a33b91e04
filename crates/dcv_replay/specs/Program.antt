-- A program that is stepped by letters, and the store that it keeps. It makes selections over the numbers of the store, each of which puts one of two
-- numbers into a slot, by whether a third is a given one; or it walks through tables, and the store is the number of the state.
--     after_select store select       the store after a selection
--     after_letter program store ..   after a step: the letter's values are put in, and the selections are made in order
--     rest_of replay                  the words that are accepted from here on
use Rattle.std.specs.Prelude.{◌≡◌, ℕ, suc, ◌+◌, ◌-◌, ◌<◌, ◌≤◌, ◌==◌, Bool, if◌then◌else◌, List, [], ◌∷◌, length, fold, slice_set, slice_index_or}
use Rattle.std.specs.List.{All}
use Rattle.dcv_word.specs.Behaviour.{Word}
use Rattle.dcv_language.specs.Language.{Language}
use Rattle.dcv_language.specs.Limits.{most_variables}
use Rattle.dcv_c_tables.specs.Unit.{Tables, no_state}
use Rattle.dcv_c_tables.specs.Meaning.{state_by}
use Rattle.dcv_c_tables.specs.Rules.{IsTables, variable_at}
use Rattle.dcv_replay.specs.declared.replay.Select.{Select}

-- the slots before it hold the numbers of their own places
abbrev pub first_name : ℕ
first_name = 32770

-- what a step does
pub data Steps : Type 0 where
  -- the slot of the first variable, after which the others follow; and the slot of what is answered: yes where it is 1
  Selects : (inputs : ℕ) → (selects : List Select) → (answer : ℕ) → Steps
  -- Without the parameters' names, which no step reads.
  Walks : (tables : Tables) → Steps

pub record Program : Type 0 where
  pub width : ℕ
  pub steps : Steps

pub record ReplayValue : Type 0 where
  pub program : Program
  pub store : List ℕ

abbrev pub number_in : List ℕ → ℕ → ℕ
number_in store slot = slice_index_or store slot 0

abbrev pub after_select : List ℕ → Select → List ℕ
after_select store select =
    slice_set store select.target (number_in store (if number_in store select.tested == select.number then select.when_equal else select.otherwise))

-- the values of a letter in the slots from this one on
abbrev pub with_letter : ℕ → List Bool → List ℕ → List ℕ
with_letter slot [] store = store
with_letter slot (value ∷ values) store = with_letter (suc slot) values (slice_set store slot (if value then 1 else 0))

abbrev pub after_step : Steps → List ℕ → List Bool → List ℕ
after_step (Selects inputs selects answer) store letter = fold after_select (with_letter inputs letter store) selects
after_step (Walks tables) store letter = state_by tables letter (number_in store 0) ∷ []

abbrev pub after_letter : Program → List ℕ → List Bool → List ℕ
after_letter program store letter = after_step program.steps store letter

abbrev pub after_word : Program → List ℕ → Word → List ℕ
after_word program store [] = store
after_word program store (letter ∷ letters) = after_word program (after_letter program store letter) letters

abbrev pub accepting : Tables → ℕ → Bool
accepting tables state = (slice_index_or tables.states state no_state).accepts

abbrev pub accepts_at : Steps → List ℕ → Bool
accepts_at (Selects inputs selects answer) store = number_in store answer == 1
accepts_at (Walks tables) store = accepting tables (number_in store 0)

abbrev pub is_accepting : Program → List ℕ → Bool
is_accepting program store = accepts_at program.steps store

-- the words that are accepted from a store on
abbrev pub rest_from : Program → List ℕ → Language
rest_from program store word = is_accepting program (after_word program store word)

abbrev pub rest_of : ReplayValue → Language
rest_of replay = rest_from replay.program replay.store

-- the same observer after a word more
abbrev pub advanced : ReplayValue → Word → ReplayValue
advanced replay word = record { program = replay.program; store = after_word replay.program replay.store word }

-- a selection within so many slots
pub record IsWithin (slots : ℕ) (select : Select) : Type 0 where
  pub target : select.target < slots
  pub tested : select.tested < slots
  pub when_equal : select.when_equal < slots
  pub otherwise : select.otherwise < slots

-- the slots of selections are there
pub record AreSelections (width inputs : ℕ) (selects : List Select) (answer : ℕ) (store : List ℕ) : Type 0 where
  pub variables : inputs + width ≤ length store
  pub answered : answer < length store
  pub within : All (IsWithin (length store)) selects

-- with so many parameters the tables keep the rules
pub record CanWalk (width : ℕ) (tables : Tables) : Type 0 where
  pub names : List (List ℕ)
  pub count : length names ≡ width
  pub rules : IsTables (record { parameters = names; nodes = tables.nodes; states = tables.states })

-- the place of a node that there is, with a parameter that there is
pub record IsNodePlace (width : ℕ) (tables : Tables) (place : ℕ) : Type 0 where
  pub beyond : length tables.states ≤ place
  pub node : place - length tables.states < length tables.nodes
  pub variable : variable_at tables place < width
  pub few : width ≤ most_variables

-- the tables can be walked through, and the state that is kept is one of theirs
pub record IsWalk (width : ℕ) (tables : Tables) (store : List ℕ) : Type 0 where
  pub walk : CanWalk width tables
  pub one : length store ≡ 1
  pub state : number_in store 0 < length tables.states

abbrev pub CanStep : ℕ → Steps → List ℕ → Type 0
CanStep width (Selects inputs selects answer) store = AreSelections width inputs selects answer store
CanStep width (Walks tables) store = IsWalk width tables store

pub record IsReplay (replay : ReplayValue) : Type 0 where
  pub width : replay.program.width ≤ 32
  pub steps : CanStep replay.program.width replay.program.steps replay.store
