-- A text of the code that is cut into tokens, and what is said of its faults.
use Rattle.std.specs.Prelude.{◌≡◌, ℕ, List, map, Option, Some, None}
use Rattle.dcv_tokens.specs.Tokens.{Token, IsTokenized}
use Rattle.dcv_tokens.specs.Reading.{seen}
use Rattle.dcv_sentence.specs.declared.faults.ReadFault.{ReadFault}
use Rattle.dcv_sentence.specs.declared.scan.Scan.{Scan}
use Rattle.dcv_sentence.specs.Faults.{StandsAmong, HasFault, IsFirstFault}

abbrev pub tokens_in : Scan → List Token
tokens_in scan = map seen scan.tokens.items

-- the text is cut into these tokens and this rest
abbrev pub IsScanned : Scan → Type 0
IsScanned scan = IsTokenized scan.text.now (tokens_in scan) scan.rest.now

-- the fault of this kind, if there is one of it
abbrev pub IsNotedAmong : List ℕ → List Token → List ℕ → (ℕ → ReadFault) → Option ReadFault → Type 0
IsNotedAmong text tokens rest kind (Some fault) = (at : ℕ) × (fault ≡ kind at) × StandsAmong text tokens rest (kind at)
IsNotedAmong text tokens rest kind None = (at : ℕ) → StandsAmong text tokens rest (kind at) → ⊥

-- the same of the scanned text
abbrev pub IsNoted : (ℕ → ReadFault) → Scan → Option ReadFault → Type 0
IsNoted kind scan found = IsNotedAmong scan.text.now (tokens_in scan) scan.rest.now kind found

-- the first fault of a text, if it has any
abbrev pub IsFirstIfAny : List ℕ → Option ReadFault → Type 0
IsFirstIfAny text (Some fault) = IsFirstFault text fault
IsFirstIfAny text None = (fault : ReadFault) → HasFault text fault → ⊥
