-- What a text comes to that is given as the text of an automaton. Every command that reads one cites these words.
--     IsRefusedAutomaton text refusal   the text is no automaton's, for this reason
--     IsAutomatonText text file         the text has the form, and its file keeps the table rules
--     OnAutomaton text RightFor o       the outcomes that are right where a command is given this text
use Rattle.std.specs.Prelude.{◌≡◌, ℕ, ◌<◌, ◌≤◌, List, length}
use Rattle.dcv_cli.specs.Common.{AutomatonFile, IsGood, Refusal, Length, Syntax, Table, Only}
use Rattle.dcv_automaton_text.specs.Form.{HasForm, IsSyntaxFault}
use Rattle.dcv_automaton_text.specs.Rules.{IsTableFault}
use Rattle.dcv_cli.specs.declared.refusal.Refusal.TheVariants.{Automaton}
use Rattle.dcv_cli.specs.Outcome.{Outcome, refused}
use Rattle.dcv_cli.specs.Refusal.{most_automaton_bytes}

-- It is longer than such a text may be; or its bytes begin no text of the form from some place on; or it has the form, and its file breaks
-- one of the table rules.
pub data IsRefusedAutomaton (text : List ℕ) (refusal : Refusal) : Type 0 where
  TooLong : most_automaton_bytes < length text → refusal ≡ Automaton Length → IsRefusedAutomaton text refusal
  HasNoForm : length text ≤ most_automaton_bytes → (at : ℕ) → IsSyntaxFault text at → refusal ≡ Automaton (Syntax at) → IsRefusedAutomaton text refusal
  BreaksARule : length text ≤ most_automaton_bytes → (file : AutomatonFile) → HasForm text file → (at : ℕ) → IsTableFault file at
      → refusal ≡ Automaton (Table at) → IsRefusedAutomaton text refusal

pub record IsAutomatonText (text : List ℕ) (file : AutomatonFile) : Type 0 where
  pub fits : length text ≤ most_automaton_bytes
  pub form : HasForm text file
  pub good : IsGood file

-- The text is refused, and the outcome says so; or it is that of an automaton, and the outcome is right for its file.
pub data OnAutomaton (text : List ℕ) (RightFor : AutomatonFile → Outcome → Type 0) (outcome : Outcome) : Type 0 where
  Refused : (refusal : Refusal) → IsRefusedAutomaton text refusal → outcome ≡ refused refusal Only → OnAutomaton text RightFor outcome
  Read : (file : AutomatonFile) → IsAutomatonText text file → RightFor file outcome → OnAutomaton text RightFor outcome
