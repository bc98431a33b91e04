-- The statuses of a run, and how they group.
use Rattle.std.specs.Prelude.{ℕ, Bool, true, false, Option, if◌then◌else◌, is_none}
use Rattle.dcv_cli.specs.Common.{Word, Verdict, Status, Valid, Done, NotValid, Usage}
use Rattle.dcv_cli.specs.Common.{StatusFormula as Formula, StatusBudget as Budget, Input, Output, Memory, StatusTrace as Trace}
use Rattle.dcv_cli.specs.Common.{StatusObserver as Observer, StatusAutomaton as Automaton}

-- the program's exit status
abbrev pub code_of : Status → ℕ
code_of Valid = 0
code_of Done = 0
code_of NotValid = 1
code_of Usage = 2
code_of Formula = 3
code_of Budget = 4
code_of Input = 5
code_of Output = 6
code_of Memory = 7
code_of Trace = 8
code_of Observer = 9
code_of Automaton = 10

-- of a run that answers with this verdict: valid where there is no counterexample
abbrev pub status_of_verdict : Verdict → Status
status_of_verdict verdict = if is_none verdict.counterexample then Valid else NotValid

-- of a run that asks for a least word, which is not to be
abbrev pub status_of_least : Option Word → Status
status_of_least least = if is_none least then Valid else NotValid

-- the status of a run that answers
abbrev pub is_answer : Status → Bool
is_answer Valid = true
is_answer Done = true
is_answer NotValid = true
is_answer _ = false

-- The words and what is held determine such a status, with its report and its message.
abbrev pub is_determined : Status → Bool
is_determined Usage = false
is_determined Input = false
is_determined Output = false
is_determined Memory = false
is_determined _ = true

-- the status of a run that is refused before anything is written, whatever it was asked for
abbrev pub is_silent : Status → Bool
is_silent Usage = true
is_silent Formula = true
is_silent Budget = true
is_silent Observer = true
is_silent Automaton = true
is_silent Memory = true
is_silent _ = false

-- the status of a run that a fault of the files ended
abbrev pub is_input : Status → Bool
is_input Input = true
is_input _ = false

-- the status of a run that a fault of the output ended
abbrev pub is_output : Status → Bool
is_output Output = true
is_output _ = false

-- the status of a run that something outside of the words and the texts brought about
abbrev pub has_cause : Status → Bool
has_cause Input = true
has_cause Output = true
has_cause Memory = true
has_cause _ = false

-- a run ends so only where its words ask for something
abbrev pub is_of_request : Status → Bool
is_of_request Usage = false
is_of_request Memory = false
is_of_request _ = true

-- the status of a run whose words are refused
abbrev pub is_usage : Status → Bool
is_usage Usage = true
is_usage _ = false
