-- What is right where it is asked what the words of an automaton's text show.
use Rattle.dcv_cli.proofs.Common.{ℕ, ◌≤◌, List, length, Option, refl, IsTrue, OnTrue, Disk, AutomatonFile, Err, Answer, Minimal, Access}
use Rattle.dcv_cli.proofs.Common.{Pair, IsRefusedAutomaton, HasNoForm, BreaksARule, OnAutomaton, status_of_answer, OnHeld, ForHeld}
use Rattle.dcv_cli.proofs.Common.{OfHeldText, Outcome, IsExplained, most_automaton_bytes, status_of, is_answer, is_determined, Refusal}
use Rattle.dcv_cli.proofs.Common.{Only}
use Rattle.dcv_automaton_read.specs.Read.{IsFaultOf}
use Rattle.dcv_automaton_read.specs.declared.faults.AutoFault.{AutoFault}
use Rattle.dcv_automaton_read.specs.declared.faults.AutoFault.TheVariants.{Syntax, Table, Memory}
use Rattle.dcv_cli.specs.AutomatonFile.{Refused}
use Rattle.dcv_cli.specs.Refusal.{refusal_of_automaton}
use Rattle.dcv_cli.proofs.ThreeEnds.{explains_first}

-- a refusal of the reader is right
pub explains_automaton : (text : List ℕ) (fault : AutoFault) → length text ≤ most_automaton_bytes → IsFaultOf {Whole = AutomatonFile} text (Err fault)
    → OnTrue (is_determined (status_of (refusal_of_automaton fault))) (IsRefusedAutomaton text (refusal_of_automaton fault))
explains_automaton text (Syntax at) short fault = HasNoForm short at fault refl
explains_automaton text (Table at) short fault = BreaksARule short fault.file fault.form at fault.fault refl
explains_automaton text Memory short fault = tt

pub answers_end : (answer : Answer) → IsTrue (is_answer (status_of_answer answer))
answers_end Minimal = refl
answers_end (Access state) = refl
answers_end (Pair first second) = refl

module _ (told : Option Disk) (name : List ℕ) where
  -- a refusal of the text is right, whatever is right for its file
  pub explains_text : (RightFor : AutomatonFile → Outcome → Type 0) (refusal : Refusal)
      → OnTrue (is_determined (status_of refusal)) (OfHeldText told name (λ text. IsRefusedAutomaton text refusal))
      → IsExplained (λ outcome. ForHeld told (λ held. OnHeld (held 0) name (λ text. OnAutomaton text RightFor) outcome)) Only refusal
  explains_text RightFor refusal refused_so =
      explains_first told name (λ held text. OnAutomaton text RightFor) Only refusal (λ text. IsRefusedAutomaton text refusal) (λ held text is. Refused refusal is refl) refused_so
