-- For the proofs alone: what the code finds of a set, as it is said.
--     outcome_of_decided, outcome_of_following    with their status
--     IsRefusedIn Right refusal                   the refusal is right, and of a text that was taken, or memory ran out
use Rattle.std.specs.Prelude.{ℕ, List, IsTrue}
use Rattle.dcv_print.specs.Verdict.{letters_of}
use Rattle.dcv_cli.specs.Common.{Only, Refusal}
use Rattle.dcv_cli.specs.FileSet.{following_outcome, set_outcome}
use Rattle.dcv_cli.specs.Outcome.{IsExplained, Outcome}
use Rattle.dcv_cli.specs.Refusal.{is_of_text}
use Rattle.dcv_cli.specs.declared.file_set.Decided.{Decided}
use Rattle.dcv_cli.specs.declared.file_set.Following.{Following}

abbrev pub outcome_of_decided : Decided → Outcome
outcome_of_decided decided = set_outcome decided.joint.now (letters_of decided.example) (letters_of decided.stuck)

abbrev pub outcome_of_following : Following → Outcome
outcome_of_following following = following_outcome following.joint.now (letters_of following.least)

abbrev pub text_of_decided : Decided → List ℕ
text_of_decided decided = (outcome_of_decided decided).out

abbrev pub text_of_following : Following → List ℕ
text_of_following following = (outcome_of_following following).out

pub record IsRefusedIn (Right : Outcome → Type 0) (refusal : Refusal) : Type 0 where
  pub explained : IsExplained Right Only refusal
  pub own : IsTrue (is_of_text refusal)
