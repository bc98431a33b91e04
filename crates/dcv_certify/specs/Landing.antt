-- For the proofs: where access words lead, given where those lead that they go on from.
--     followed table states access     the state to which the word leads
--     GoesOnFrom file states access    it goes on from one of these, by a letter of the file's width
--     AreLanded file states            these are the states to which the access words lead
use Rattle.std.specs.Prelude.{◌≡◌, ℕ, ◌<◌, List, length, slice_index_or}
use Rattle.dcv_language.specs.Table.{Table, next_in}
use Rattle.dcv_automaton_text.specs.File.{Access, EmptyAccess, StartAccess, AfterAccess, AutomatonFile}
use Rattle.dcv_certify.specs.Certified.{landed}

abbrev pub followed : Table → List ℕ → Access → ℕ
followed table states EmptyAccess = 0
followed table states (StartAccess letter) = next_in table 0 letter
followed table states (AfterAccess before letter) = next_in table (slice_index_or states before 0) letter

abbrev pub GoesOnFrom : AutomatonFile → List ℕ → Access → Type 0
GoesOnFrom file states EmptyAccess = Unit {0}
GoesOnFrom file states (StartAccess letter) = (0 < file.states) × (length letter ≡ length file.names)
GoesOnFrom file states (AfterAccess before letter) = (before < length states) × (length letter ≡ length file.names)

pub record AreLanded (file : AutomatonFile) (states : List ℕ) : Type 0 where
  pub count : length states ≡ file.states
  pub each : (state : ℕ) → state < file.states → slice_index_or states state 0 ≡ landed file state
