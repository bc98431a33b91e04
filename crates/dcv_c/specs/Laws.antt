-- The laws that `src/laws.rt` proves.
use Rattle.std.specs.Prelude.{◌≡◌, ℕ, Bool, List, ◌⊎◌, length}
use Rattle.dcv_language.specs.Language.{Language, HaveSameBehaviours}
use Rattle.dcv_language.specs.Table.{table_accepts}
use Rattle.dcv_automaton_text.specs.File.{AutomatonFile, AccessLine, SuffixLine}
use Rattle.dcv_automaton_text.specs.Meaning.{table_of}
use Rattle.dcv_automaton_text.specs.Rules.{IsGood}
use Rattle.dcv_automaton_file.specs.File.{file_of}
use Rattle.dcv_automaton_file.specs.Laws.{HasFile}
use Rattle.dcv_dfa.specs.Raw.{RawValue, raw_accepts}
use Rattle.dcv_observer.specs.declared.fault.ObsFault.{ObsFault}
use Rattle.dcv_c.specs.Tree.{CUnit}
use Rattle.dcv_c.specs.Meaning.{Numbers, Store, stepped, width_of, unit_accepts}
use Rattle.dcv_c.specs.Observer.{observer_of}
use Rattle.dcv_c.specs.Rules.{IsWellNamed}
use Rattle.dcv_c.specs.Placed.{PlacedUnit, unit_of}
use Rattle.dcv_c.specs.Actions.{Spells}
use Rattle.dcv_c.specs.Form.{IsSpellable}
use Rattle.dcv_c.specs.Words.{AreWords}
use Rattle.dcv_c.specs.Faults.{HasFault, IsReadAs}
use Rattle.dcv_c.specs.Layout.{text_of}

-- ---- steps

-- what was left in the locals of a unit that keeps the rules of names matters to no step
abbrev pub NoLeftOverIsRead : Type 0
NoLeftOverIsRead = (unit : CUnit) → IsWellNamed unit → (left_over other : Numbers) (store : Store) (letter : List Bool)
    → stepped unit left_over store letter ≡ stepped unit other store letter

-- ---- observers

-- a unit is an observer of a language over so many variables
pub record Observes (k : ℕ) (unit : CUnit) (L : Language) : Type 0 where
  pub well_named : IsWellNamed unit
  pub spellable : IsSpellable unit
  pub width : width_of unit ≡ k
  -- of the behaviours it accepts exactly those of the language
  pub accepts : HaveSameBehaviours k (unit_accepts unit) L

-- that of a file which keeps the table rules observes what the file's table accepts
abbrev pub ObserverOfFile : Type 0
ObserverOfFile = (file : AutomatonFile) → IsGood file → Observes (length file.names) (observer_of file) (table_accepts (table_of file))

-- that of an automaton's file observes what the automaton accepts
abbrev pub ObserverOfAutomaton : Type 0
ObserverOfAutomaton = (raw : RawValue) (names : List (List ℕ)) (access : List AccessLine) (suffixes : List SuffixLine)
    → HasFile raw names → Observes raw.arena.slots (observer_of (file_of raw names access suffixes)) (raw_accepts raw)

-- ---- texts

-- the text of a unit spells it
abbrev pub TextSpellsUnit : Type 0
TextSpellsUnit = (unit : CUnit) → IsSpellable unit → (placed : PlacedUnit) × Spells (text_of unit) placed × (unit_of placed ≡ unit)

-- so it is read back as the unit
abbrev pub TextIsReadBack : Type 0
TextIsReadBack = (unit : CUnit) → IsSpellable unit → IsWellNamed unit → IsReadAs (text_of unit) unit

-- a text spells one unit at most
abbrev pub SpellsOne : Type 0
SpellsOne = (text : List ℕ) (placed other : PlacedUnit) → Spells text placed → Spells text other → placed ≡ other

-- the words of a unit that a text spells are what the grammar asks
abbrev pub SpelledWords : Type 0
SpelledWords = (text : List ℕ) (placed : PlacedUnit) → Spells text placed → AreWords placed

-- ---- faults

-- a text has one fault at most
abbrev pub OneFault : Type 0
OneFault = (text : List ℕ) (fault other : ObsFault) → HasFault text fault → HasFault text other → fault ≡ other

-- each text has a fault or is read as a unit
abbrev pub SomeReading : Type 0
SomeReading = (text : List ℕ) → ((fault : ObsFault) × HasFault text fault) ⊎ ((unit : CUnit) × IsReadAs text unit)

-- and not both
abbrev pub NoFaultWhereRead : Type 0
NoFaultWhereRead = (text : List ℕ) (unit : CUnit) (fault : ObsFault) → IsReadAs text unit → HasFault text fault → ⊥
