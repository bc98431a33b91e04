-- Which outcomes are right for the words of a run and for what is held under the names.
--     Fulfils request held outcome      right for the request
--     IsRight words held outcome        right for the words
use Rattle.std.specs.Prelude.{◌≡◌, ℕ, List, [], Option}
use Rattle.dcv_cli.specs.Common.{Disk, Usage, Request, Report, Certify, Convert, Implies, Stuck, Synth, Replay}
use Rattle.dcv_cli.specs.Common.{Set, Sweep, IsTaken, Only, First, Second}
use Rattle.dcv_cli.specs.AutomatonFile.{OnAutomaton}
use Rattle.dcv_cli.specs.Budget.{IsBudgeted}
use Rattle.dcv_cli.specs.Certificate.{IsCertificate}
use Rattle.dcv_cli.specs.Comparison.{IsCompared}
use Rattle.dcv_cli.specs.Conversion.{IsConverted}
use Rattle.dcv_cli.specs.FileSet.{IsOfSet, OnFiles}
use Rattle.dcv_cli.specs.FormulaFile.{OnText}
use Rattle.dcv_cli.specs.Held.{Texts, OnHeld, ForHeld}
use Rattle.dcv_cli.specs.Outcome.{Outcome}
use Rattle.dcv_cli.specs.ObserverFile.{OnObserver}
use Rattle.dcv_cli.specs.Replayed.{IsReplay}
use Rattle.dcv_cli.specs.Report.{IsReport}
use Rattle.dcv_cli.specs.Request.{AsksFor}
use Rattle.dcv_cli.specs.Stuck.{IsStuckReport}
use Rattle.dcv_cli.specs.Swept.{IsSwept}
use Rattle.dcv_cli.specs.Synthesis.{IsSynthesised}

abbrev pub Fulfils : Request → Texts → Outcome → Type 0
Fulfils (Report kind name limits) held outcome = OnHeld (held 0) name (λ text. OnText text Only (IsBudgeted limits Only (IsReport kind limits))) outcome
Fulfils (Certify name) held outcome = OnHeld (held 0) name (λ text. OnAutomaton text IsCertificate) outcome
Fulfils (Convert name to) held outcome = OnHeld (held 0) name (λ text. OnAutomaton text (IsConverted to)) outcome
Fulfils (Implies first second limits) held outcome =
    OnHeld (held 0) first (λ text. OnText text First (λ one. OnHeld (held 1) second (λ other_text. OnText other_text Second (IsCompared limits one)))) outcome
Fulfils (Stuck name limits) held outcome = OnHeld (held 0) name (λ text. OnText text Only (IsBudgeted limits Only IsStuckReport)) outcome
Fulfils (Synth name inputs limits) held outcome = OnHeld (held 0) name (λ text. OnText text Only (IsSynthesised inputs limits)) outcome
Fulfils (Replay subset observer trace) held outcome =
    OnHeld (held 0) observer (λ text. OnObserver subset text (λ one. OnHeld (held 1) trace (IsReplay one))) outcome
Fulfils (Sweep seed count) held outcome = IsSwept seed count outcome
Fulfils (Set question names limits tuples) held outcome = OnFiles held 0 [] names (IsOfSet question limits tuples) outcome

-- Words that are no command's are refused, in whatever words. Else what fulfils their request is right.
pub data IsRight (words : List (List ℕ)) (held : Texts) (outcome : Outcome) : Type 0 where
  Misused : ¬ (IsTaken words) → outcome.status ≡ Usage → outcome.out ≡ [] → IsRight words held outcome
  Fulfilled : (request : Request) → AsksFor words request → Fulfils request held outcome → IsRight words held outcome

abbrev pub FulfilsOver : Request → Option Disk → Outcome → Type 0
FulfilsOver request told outcome = ForHeld told (λ held. Fulfils request held outcome)

abbrev pub IsRightOver : List (List ℕ) → Option Disk → Outcome → Type 0
IsRightOver words told outcome = ForHeld told (λ held. IsRight words held outcome)
