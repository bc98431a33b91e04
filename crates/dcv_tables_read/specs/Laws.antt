-- The laws that `src/laws.rt` proves.
use Rattle.std.specs.Prelude.{◌≡◌, List, ℕ, ◌⊎◌}
use Rattle.dcv_automaton_text.specs.File.{AutomatonFile}
use Rattle.dcv_automaton_text.specs.Rules.{IsGood}
use Rattle.dcv_observer.specs.declared.fault.ObsFault.{ObsFault}
use Rattle.dcv_c_tables.specs.Unit.{Tables}
use Rattle.dcv_c_tables.specs.Rules.{IsTables}
use Rattle.dcv_c_tables.specs.Layout.{text_of}
use Rattle.dcv_c_tables.specs.Observer.{tables_of}
use Rattle.dcv_tables_read.specs.Form.{HasForm}
use Rattle.dcv_tables_read.specs.Reading.{HasFault, IsReadAs}

-- no text spells two units
abbrev pub SpellsOne : Type 0
SpellsOne = (text : List ℕ) (tables other : Tables) → HasForm text tables → HasForm text other → tables ≡ other

-- a text has one fault at most
abbrev pub OneFault : Type 0
OneFault = (text : List ℕ) (fault other : ObsFault) → HasFault text fault → HasFault text other → fault ≡ other

-- and none where it is read
abbrev pub NoFaultWhereRead : Type 0
NoFaultWhereRead = (text : List ℕ) (tables : Tables) (fault : ObsFault) → IsReadAs text tables → HasFault text fault → ⊥

-- each text has a fault, or is read
abbrev pub SomeReading : Type 0
SomeReading = (text : List ℕ) → ((fault : ObsFault) × HasFault text fault) ⊎ ((tables : Tables) × IsReadAs text tables)

-- what is judged of a unit is what a step needs
abbrev pub ReadUnitsKeepTheRules : Type 0
ReadUnitsKeepTheRules = (text : List ℕ) (tables : Tables) → IsReadAs text tables → IsTables tables

-- the text of an automaton's tables is read back
abbrev pub TextIsReadBack : Type 0
TextIsReadBack = (file : AutomatonFile) → IsGood file → IsReadAs (text_of (tables_of file)) (tables_of file)
