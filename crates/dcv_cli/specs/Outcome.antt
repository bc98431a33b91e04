-- How a run may end.
--     Outcome                 status, report and message
--     refused refusal which   nothing but the line of a refusal
--     IsExplained Right which r
--                             the refusal r, of this file, is a right outcome, where the words and the texts determine it
--     has_automaton kind      whether a report of this kind has the text of an automaton
--     AgreeInMeaning kind one other
--                             reports that are the same, but for what is left to the program and what the steps took
use Rattle.std.specs.Prelude.{◌≡◌, ◌⊎◌, ℕ, Bool, true, false, List, [], IsTrue}
use Rattle.std.specs.Bool.{OnTrue}
use Rattle.dcv_cli.specs.Common.{line, Refusal, Status, Kind, Automaton, All, Which}
use Rattle.dcv_print.specs.Automaton.{AgreeUpToAccess}
use Rattle.dcv_cli.specs.Refusal.{status_of, words_of, ended}
use Rattle.dcv_cli.specs.Status.{is_determined}

-- how a run ends, and what it adds to the output and to the messages
pub record Outcome : Type 0 where
  pub status : Status
  pub out : List ℕ
  pub err : List ℕ

abbrev pub line_of : Refusal → Which → List ℕ
line_of refusal which = line (ended which (words_of refusal))

abbrev pub refused : Refusal → Which → Outcome
refused refusal which = record { status = status_of refusal; out = []; err = line_of refusal which }

-- Of the other refusals the words, the counts of the outside, and nothing at all where memory runs out, say when they come.
abbrev pub IsExplained : (Outcome → Type 0) → Which → Refusal → Type 0
IsExplained Right which refusal = OnTrue (is_determined (status_of refusal)) (Right (refused refusal which))

abbrev pub has_automaton : Kind → Bool
has_automaton Automaton = true
has_automaton All = true
has_automaton _ = false

-- Of formulas with one meaning the steps may differ, so where an automaton is written its lines are the same up to the last of its access words.
-- All else is the same.
pub record AgreeInMeaning (kind : Kind) (one other : Outcome) : Type 0 where
  pub status : one.status ≡ other.status
  pub report : (one.out ≡ other.out) ⊎ (IsTrue (has_automaton kind) × AgreeUpToAccess one.out other.out)
  pub message : one.err ≡ other.err
