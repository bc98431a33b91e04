-- The laws that `src/laws.rt` proves.
use Rattle.std.specs.Prelude.{◌≡◌, List, ℕ, Err, ◌⊎◌}
use Rattle.dcv_automaton_text.specs.File.{AutomatonFile}
use Rattle.dcv_automaton_text.specs.Form.{HasForm}
use Rattle.dcv_automaton_text.specs.Rules.{IsGood}
use Rattle.dcv_automaton_read.specs.declared.faults.AutoFault.{AutoFault}
use Rattle.dcv_automaton_read.specs.declared.faults.AutoFault.TheVariants.{Memory}
use Rattle.dcv_automaton_read.specs.Read.{HasFault, IsFaultOf}

-- a text that has the form, and whose file keeps the rules, has no fault, and no other file
pub record IsReadAs (text : List ℕ) (file : AutomatonFile) : Type 0 where
  pub no_fault : (fault : AutoFault) → IsFaultOf {Whole = AutomatonFile} text (Err fault) → fault ≡ Memory
  pub no_other : (other : AutomatonFile) → HasForm text other → other ≡ file

abbrev pub GoodTextsAreRead : Type 0
GoodTextsAreRead = (text : List ℕ) (file : AutomatonFile) → HasForm text file → IsGood file → IsReadAs text file

-- ---- faults

-- each text has a fault, or is that of an automaton
abbrev pub SomeReading : Type 0
SomeReading = (text : List ℕ) → ((fault : AutoFault) × HasFault text fault) ⊎ ((file : AutomatonFile) × HasForm text file × IsGood file)

-- and not both
abbrev pub NoFaultWhereRead : Type 0
NoFaultWhereRead = (text : List ℕ) (file : AutomatonFile) (fault : AutoFault) → HasForm text file → IsGood file → HasFault text fault → ⊥

-- and one fault at most
abbrev pub OneFault : Type 0
OneFault = (text : List ℕ) (fault other : AutoFault) → HasFault text fault → HasFault text other → fault ≡ other
