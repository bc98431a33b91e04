-- What is right where an observer is run over a trace.
--     fault_of_trace verdict            what is wrong with a trace, if it is not good
--     IsReplay observer trace outcome   the observer's answers to the good lines of the trace, and what is wrong with it after these
--     LeavesAnswers subset ..           what was written where an input failed
use Rattle.std.specs.Prelude.{◌≡◌, ◌+◌, ℕ, List, [], ◌∷◌, Option, None, Some}
use Rattle.dcv_cli.specs.Common.{Asks, Disk, Rises, Word, Subset, Observer, TraceFault, Line}
use Rattle.dcv_cli.specs.Common.{Empty, TraceLength as Length, Trace, Status, Done, StatusTrace}
use Rattle.dcv_replay.specs.Observer.{width_of, AreAnswers}
use Rattle.dcv_replay.specs.Replayed.{CutShort}
use Rattle.dcv_replay.specs.TraceText.{Verdict, Good, Bad, Long, Nothing, HasVerdict, good_letters}
use Rattle.dcv_cli.specs.Held.{Texts}
use Rattle.dcv_cli.specs.ObserverFile.{IsObserverText}
use Rattle.dcv_cli.specs.Outcome.{Outcome}
use Rattle.dcv_cli.specs.Outside.{Outside}
use Rattle.dcv_io.specs.Disk.{WhereTold, ReadsAtMost}
use Rattle.dcv_cli.specs.Refusal.{message_of, only, most_observer_bytes}

abbrev pub fault_of_trace : Verdict → Option TraceFault
fault_of_trace (Good letters) = None
fault_of_trace (Bad letters line) = Some (Line line)
fault_of_trace (Long letters) = Some Length
fault_of_trace Nothing = Some Empty

abbrev pub status_of_trace : Option TraceFault → Status
status_of_trace None = Done
status_of_trace (Some fault) = StatusTrace

abbrev pub message_of_trace : Option TraceFault → List ℕ
message_of_trace None = []
message_of_trace (Some fault) = message_of (only (Trace fault))

-- What is wrong with the trace is said after the answers to the lines before it.
pub record IsReplay (observer : Observer) (trace : List ℕ) (outcome : Outcome) : Type 0 where
  pub verdict : Verdict
  pub is_verdict : HasVerdict (width_of observer) trace verdict
  pub answers : AreAnswers observer [] (good_letters verdict) outcome.out
  pub status : outcome.status ≡ status_of_trace (fault_of_trace verdict)
  pub message : outcome.err ≡ message_of_trace (fault_of_trace verdict)

-- ---- where an input failed

-- the observer's answers to the lines that ended in what was read of the trace, of which the rest is left to read
pub record IsCutShort (observer : Observer) (trace : List ℕ) (told : Option Disk) (bytes : List ℕ) : Type 0 where
  pub letters : Word
  pub cut : CutShort (width_of observer) trace told letters
  pub answers : AreAnswers observer [] letters bytes

-- the text of this observer is held
pub record HasObserver (subset : Subset) (observer_text : Option (List ℕ)) : Type 0 where
  pub text : List ℕ
  pub there : observer_text ≡ Some text
  pub observer : Observer
  pub is : IsObserverText subset text observer

-- the same of texts that are held
pub record AnswersRead (subset : Subset) (observer_text trace_text : Option (List ℕ)) (told : Option Disk) (bytes : List ℕ) : Type 0 where
  pub text : List ℕ
  pub there : observer_text ≡ Some text
  pub observer : Observer
  pub is : IsObserverText subset text observer
  pub trace : List ℕ
  pub trace_there : trace_text ≡ Some trace
  pub short : IsCutShort observer trace told bytes

-- Nothing was written where the observer's file failed or the trace could not be opened. The trace is asked for after an observer alone.
pub data LeavesAnswers (subset : Subset) (observer trace : List ℕ) (held : Texts) (before after : Outside) (bytes : List ℕ) : Type 0 where
  OfObserver : Asks (observer ∷ []) before.asked after.asked → WhereTold (ReadsAtMost observer (most_observer_bytes + 1)) before.told after.told → bytes ≡ [] → LeavesAnswers subset observer trace held before after bytes
  OfOpen : Asks (observer ∷ trace ∷ []) before.asked after.asked → Rises before.open_faults after.open_faults → HasObserver subset (held 0 observer) → bytes ≡ []
      → LeavesAnswers subset observer trace held before after bytes
  OfRead : Asks (observer ∷ trace ∷ []) before.asked after.asked → Rises before.read_faults after.read_faults
      → AnswersRead subset (held 0 observer) (held 1 trace) after.told bytes → LeavesAnswers subset observer trace held before after bytes
