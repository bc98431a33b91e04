-- What a run promises, where the files tell what they hold.
--     Holds told name text         the files tell that they hold this text under the name
--     HoldEach told names texts    and of each name the text at its place
--     Ends Right status seen       where the words and the texts determine how the run ends, it ended with the status, the report and the message of
--                                  a right outcome
--     IsReported, IsCompared ..    which outcomes are right for a command
use Rattle.std.specs.Prelude.{◌≡◌, ℕ, suc, List, [], ◌∷◌, ◌++◌, Option, Some}
use Rattle.std.specs.Bool.{OnTrue}
use Rattle.std.specs.Option.{IsSomeAnd}
use Rattle.dcv_io.specs.Disk.{Disk, held_of}
use Rattle.dcv_explore.specs.declared.explorer.Limits.{Limits}
use Rattle.dcv_language.specs.declared.kind.Kind.{Kind}
use Rattle.dcv_command.specs.declared.words.SetQuestion.{SetQuestion}
use Rattle.dcv_command.specs.declared.words.Subset.{Subset}
use Rattle.dcv_syntax.specs.Plain.{PlainFile}
use Rattle.dcv_cli.specs.declared.refused.Which.TheVariants.{Only, First, Second, Number}
use Rattle.dcv_cli.specs.declared.status.Status.{Status}
use Rattle.dcv_cli.specs.AutomatonFile.{OnAutomaton}
use Rattle.dcv_cli.specs.Budget.{IsBudgeted}
use Rattle.dcv_cli.specs.Certificate.{IsCertificate}
use Rattle.dcv_cli.specs.Comparison.{IsCompared}
use Rattle.dcv_cli.specs.Ending.{EndsBy, Tells}
use Rattle.dcv_cli.specs.FileSet.{IsOfSet}
use Rattle.dcv_cli.specs.FormulaFile.{OnText}
use Rattle.dcv_cli.specs.ObserverFile.{OnObserver}
use Rattle.dcv_cli.specs.Outcome.{Outcome}
use Rattle.dcv_cli.specs.Replayed.{IsReplay}
use Rattle.dcv_cli.specs.Report.{IsReport}
use Rattle.dcv_cli.specs.Status.{is_determined}
use Rattle.dcv_cli.specs.Stuck.{IsStuckReport}
use Rattle.dcv_cli.specs.Synthesis.{IsSynthesised}

abbrev pub Holds : Option Disk → List ℕ → List ℕ → Type 0
Holds told name text = IsSomeAnd (held_of told) (λ held. held name ≡ Some text)

abbrev pub HoldEach : Option Disk → List (List ℕ) → List (List ℕ) → Type 0
HoldEach told [] [] = Unit {0}
HoldEach told (name ∷ names) (text ∷ texts) = Holds told name text × HoldEach told names texts
HoldEach told _ _ = ⊥

-- what is on the output and on the messages, where that is told, and how many writes of messages have failed
pub record Seen : Type 0 where
  pub out : Option (List ℕ)
  pub err : Option (List ℕ)
  pub faults : ℕ

abbrev pub seen : Option (List ℕ) → Option (List ℕ) → ℕ → Seen
seen out err faults = record { out = out; err = err; faults = faults }

abbrev pub Ends : (Outcome → Type 0) → Status → Seen → Seen → Type 0
Ends Right status old new = OnTrue (is_determined status)
    (EndsBy Right status old.out new.out (λ message. Tells message old.err new.err old.faults new.faults))

-- The text's first fault is named, or the first step that is over the limits, or the report of this kind is written.
abbrev pub IsReported : Kind → List ℕ → Limits → Outcome → Type 0
IsReported kind text limits = OnText text Only (IsBudgeted limits Only (IsReport kind limits))

-- the first fault of the first text, or of the second, or a limit is named; or it is said whether the first implies the second
abbrev pub IsImplied : List ℕ → List ℕ → Limits → Outcome → Type 0
IsImplied first second limits = OnText first First (λ one. OnText second Second (IsCompared limits one))

-- the first fault or a limit is named; or it is said whether what has kept to the formula so far can always go on
abbrev pub IsContinued : List ℕ → Limits → Outcome → Type 0
IsContinued text limits = OnText text Only (IsBudgeted limits Only IsStuckReport)

-- these files were read before
abbrev pub OnTexts : ℕ → List PlainFile → List (List ℕ) → (List PlainFile → Outcome → Type 0) → Outcome → Type 0
OnTexts time read [] RightFor = RightFor read
OnTexts time read (text ∷ texts) RightFor = OnText text (Number (suc time)) (λ file. OnTexts (suc time) (read ++ file ∷ []) texts RightFor)

-- the first fault of the first text that has one, or a limit, is named; or what is asked of all of them together is answered
abbrev pub IsDecided : SetQuestion → List (List ℕ) → Limits → ℕ → Outcome → Type 0
IsDecided question texts limits tuples = OnTexts 0 [] texts (IsOfSet question limits tuples)

abbrev pub IsPlayed : List ℕ → ℕ → Limits → Outcome → Type 0
IsPlayed text inputs limits = OnText text Only (IsSynthesised inputs limits)

abbrev pub IsCertified : List ℕ → Outcome → Type 0
IsCertified text = OnAutomaton text IsCertificate

abbrev pub IsReplayed : Subset → List ℕ → List ℕ → Outcome → Type 0
IsReplayed subset observer trace = OnObserver subset observer (λ one. IsReplay one trace)
