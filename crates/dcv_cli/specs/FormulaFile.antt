-- What a text comes to that is given as a formula file. Every command that reads one cites these words.
--     IsRefused text refusal    the text is no formula file, for this reason
--     IsSentence text file      the text has no fault, and spells the file
--     IsFormulaFile text file   nor does the file have one, in its names or its goal
--     OnText ..                 the outcomes that are right where a command is given this text
use Rattle.std.specs.Prelude.{◌≡◌, ℕ, ◌<◌, ◌≤◌, List, None, Some, length}
use Rattle.dcv_cli.specs.Common.{PlainFile, ReadFault, ScopeFault, Refusal, Formula, Which}
use Rattle.dcv_sentence.specs.Faults.{HasFault, IsFirstFault}
use Rattle.dcv_reader.specs.Spelling.{Spells}
use Rattle.dcv_scope.specs.Faults.{fault_of_file}
use Rattle.dcv_cli.specs.declared.faults.FormulaFault.TheVariants.{Length}
use Rattle.dcv_cli.specs.Outcome.{Outcome, refused}
use Rattle.dcv_cli.specs.Refusal.{most_bytes, refusal_of_reading, refusal_of_scope}

pub record IsSentence (text : List ℕ) (file : PlainFile) : Type 0 where
  pub fits : length text ≤ most_bytes
  pub no_fault : (fault : ReadFault) → HasFault text fault → ⊥
  pub spelled : Spells text file

-- It is longer than a formula file may be; or it has a fault, the first of which counts; or the file that it spells has one.
pub data IsRefused (text : List ℕ) (refusal : Refusal) : Type 0 where
  TooLong : most_bytes < length text → refusal ≡ Formula Length → IsRefused text refusal
  Faulty : length text ≤ most_bytes → (fault : ReadFault) → IsFirstFault text fault → refusal ≡ refusal_of_reading fault → IsRefused text refusal
  HasNoCore : (file : PlainFile) → IsSentence text file → (fault : ScopeFault) → fault_of_file file ≡ Some fault
      → refusal ≡ refusal_of_scope fault → IsRefused text refusal

pub record IsFormulaFile (text : List ℕ) (file : PlainFile) : Type 0 where
  pub sentence : IsSentence text file
  pub has_core : fault_of_file file ≡ None

-- The text is refused, and the outcome says so and which of the request's files it is; or it is a formula file, and the
-- outcome is right for that. What the command does with the file is its own part, `RightFor`.
pub data OnText (text : List ℕ) (which : Which) (RightFor : PlainFile → Outcome → Type 0) (outcome : Outcome) : Type 0 where
  Refused : (refusal : Refusal) → IsRefused text refusal → outcome ≡ refused refusal which → OnText text which RightFor outcome
  Read : (file : PlainFile) → IsFormulaFile text file → RightFor file outcome → OnText text which RightFor outcome
