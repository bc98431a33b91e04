-- The laws that `src/laws.rt` proves.
--     IsSafeStep tables letter state     a step arrives at a state, reads nothing beyond an array, and looks at each parameter once at most
--     RulesMakeStepsSafe                 so is each step of a unit that keeps the rules
--     Observes k tables L                a unit keeps the rules, and accepts the behaviours of a set over so many variables
--     TablesOfFile                       the tables of a file that keeps the table rules do so of what the file's table accepts
use Rattle.std.specs.Prelude.{◌≡◌, ℕ, ◌+◌, ◌<◌, ◌≤◌, Bool, List, [], ◌∷◌, length}
use Rattle.dcv_language.specs.Language.{Language, HaveSameBehaviours}
use Rattle.dcv_language.specs.Table.{table_accepts}
use Rattle.dcv_automaton_text.specs.File.{AutomatonFile}
use Rattle.dcv_automaton_text.specs.Meaning.{table_of}
use Rattle.dcv_automaton_text.specs.Rules.{IsGood}
use Rattle.dcv_c_tables.specs.Unit.{Tables}
use Rattle.dcv_c_tables.specs.Meaning.{nodes_from, state_by, tables_accept}
use Rattle.dcv_c_tables.specs.Rules.{IsTables, variable_at}
use Rattle.dcv_c_tables.specs.Observer.{tables_of}

-- the place of a node that there is, whose parameter is there too, and is none of the first ones, which were looked at
pub record IsLook (tables : Tables) (first place : ℕ) : Type 0 where
  pub node : place < length tables.states + length tables.nodes
  pub parameter : variable_at tables place < length tables.parameters
  pub later : first ≤ variable_at tables place

abbrev pub AreLooks : Tables → ℕ → List ℕ → Type 0
AreLooks tables first [] = Unit {0}
AreLooks tables first (place ∷ places) = IsLook tables first place × AreLooks tables (variable_at tables place + 1) places

-- a step from a state that there is
pub record IsSafeStep (tables : Tables) (letter : List Bool) (state : ℕ) : Type 0 where
  -- it arrives at one
  pub ends : state_by tables letter state < length tables.states
  -- and reads nothing beyond an array on its way, where it looks at the parameters in their order, at each once at most
  pub looks : AreLooks tables 0 (nodes_from tables letter state)
  -- so it looks at no more nodes than there are parameters
  pub short : length (nodes_from tables letter state) ≤ length tables.parameters

abbrev pub StepsAreSafe : Tables → Type 0
StepsAreSafe tables = (letter : List Bool) (state : ℕ) → state < length tables.states → IsSafeStep tables letter state

abbrev pub RulesMakeStepsSafe : Type 0
RulesMakeStepsSafe = (tables : Tables) → IsTables tables → StepsAreSafe tables

-- a unit is an observer of a language over so many variables
pub record Observes (k : ℕ) (tables : Tables) (L : Language) : Type 0 where
  pub rules : IsTables tables
  pub width : length tables.parameters ≡ k
  pub steps : StepsAreSafe tables
  -- of the behaviours it accepts exactly those of the language
  pub accepts : HaveSameBehaviours k (tables_accept tables) L

abbrev pub TablesOfFile : Type 0
TablesOfFile = (file : AutomatonFile) → IsGood file → Observes (length file.names) (tables_of file) (table_accepts (table_of file))
