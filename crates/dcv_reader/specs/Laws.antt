-- What holds of every text.
--     IsShortName name    a name, and not too long
use Rattle.std.specs.Prelude.{ℕ, ◌≤◌, List, ◌⊎◌, IsTrue, length}
use Rattle.std.specs.List.{All}
use Rattle.dcv_syntax.specs.declared.names.Name.{Name}
use Rattle.dcv_syntax.specs.Plain.{PlainFile}
use Rattle.dcv_tokens.specs.Limits.{longest_word}
use Rattle.dcv_tokens.specs.Tokens.{is_name}
use Rattle.dcv_sentence.specs.declared.faults.ReadFault.{ReadFault}
use Rattle.dcv_sentence.specs.Faults.{HasFault, IsFirstFault}
use Rattle.dcv_reader.specs.Spelling.{Spells}

-- each text has a first fault, or spells a file and has no fault
abbrev pub SomeReading : Type 0
SomeReading =
    (text : List ℕ) →
    ((fault : ReadFault) × IsFirstFault text fault)
    ⊎ ((file : PlainFile) × Spells text file × ((fault : ReadFault) → HasFault text fault → ⊥))

pub record IsShortName (name : Name) : Type 0 where
  pub form : IsTrue (is_name name.text)
  pub short : length name.text ≤ longest_word

-- the declared variables of a file that a text without faults spells
abbrev pub NamesAreShort : Type 0
NamesAreShort = (text : List ℕ) (file : PlainFile) → Spells text file → ((fault : ReadFault) → HasFault text fault → ⊥) → All IsShortName file.variables
