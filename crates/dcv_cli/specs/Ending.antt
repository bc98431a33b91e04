-- The words with which the clauses of a run speak of how it ended.
--     EndsBy Right ..          it ended as a right outcome does
--     AddsFront Right ..       nothing but a front of a right report was written
--     StopsWithin Right ..     the output failed before a right report was whole
--     LeavesOver words ..      what was written where an input failed
--     AsksFrontOf words ..     which files were asked for
--     calls_of request         how many opens and reads its files take at most, together
--     CallsFew words ..        there were no more
--     HasInputCause ..         what the counts of the files say
--     Tells, TellsCause        what is on the messages
use Rattle.std.specs.Bool.{OnTrue}
use Rattle.std.specs.Prelude.{◌≡◌, ◌≤◌, ◌+◌, ◌*◌, ◌⊎◌, ℕ, Bool, List, [], ◌∷◌, length, Option, IsTrue, IsFalse}
use Rattle.dcv_cli.specs.Common.{Asks, AsksPrefix, has_risen, Rises}
use Rattle.dcv_cli.specs.Common.{Appends, AppendsStrictPrefix, Request, Report, Certify, Convert, Implies, Set, Stuck, Synth, Replay, Sweep}
use Rattle.dcv_cli.specs.Common.{files_of, Open, Read, Write, Status, Input, Output, Memory}
use Rattle.dcv_io.specs.Disk.{WhereTold, ReadsAtMost}
use Rattle.dcv_io.specs.Written.{AppendsPrefix}
use Rattle.dcv_replay.specs.Coming.{most_reads}
use Rattle.dcv_cli.specs.declared.refusal.Refusal.TheVariants.{Memory as OutOfMemory}
use Rattle.dcv_cli.specs.Comparison.{LeavesComparison}
use Rattle.dcv_cli.specs.FileSet.{LeavesSet}
use Rattle.dcv_cli.specs.Outcome.{Outcome}
use Rattle.dcv_cli.specs.Outside.{Outside}
use Rattle.dcv_cli.specs.Refusal.{message_of, only, most_bytes, most_automaton_bytes, most_observer_bytes}
use Rattle.dcv_cli.specs.Status.{has_cause}
use Rattle.dcv_cli.specs.Request.{AsksFor}
use Rattle.dcv_cli.specs.Held.{Texts, ForHeld}
use Rattle.dcv_cli.specs.Replayed.{LeavesAnswers}

-- ---- the status and the report

-- A right outcome has this status, its report is what was added to the output, and its message what P says.
pub record EndsBy (Right : Outcome → Type 0) (status : Status) (old new : Option (List ℕ)) (P : List ℕ → Type 0) : Type 0 where
  pub outcome : Outcome
  pub right : Right outcome
  pub ends : outcome.status ≡ status
  pub report : Appends old new outcome.out
  pub message : P outcome.err

-- what was added is a front of the report of a right outcome, or nothing
abbrev pub AddsFront : (Outcome → Type 0) → Option (List ℕ) → Option (List ℕ) → Type 0
AddsFront Right old new = Appends old new [] ⊎ ((outcome : Outcome) × Right outcome × AppendsPrefix old new outcome.out)

-- what was added is a front of the report of a right outcome, and some of that report is missing
abbrev pub StopsWithin : (Outcome → Type 0) → Option (List ℕ) → Option (List ℕ) → Type 0
StopsWithin Right old new = (outcome : Outcome) × Right outcome × AppendsStrictPrefix old new outcome.out

-- the one file was asked for, at most one byte past the limit was read of it, and nothing was written
pub record LeavesNothing (limit : ℕ) (name : List ℕ) (before after : Outside) (bytes : List ℕ) : Type 0 where
  pub asked : Asks (name ∷ []) before.asked after.asked
  pub read : WhereTold (ReadsAtMost name (limit + 1)) before.told after.told
  pub none : bytes ≡ []

-- What a run of the request has written where an input failed: nothing, but of a replay the answers up to there. A second file is asked for
-- after a first without a fault alone.
abbrev pub Leaves : Request → Texts → Outside → Outside → List ℕ → Type 0
Leaves (Report kind name limits) held before after bytes = LeavesNothing most_bytes name before after bytes
Leaves (Certify name) held before after bytes = LeavesNothing most_automaton_bytes name before after bytes
Leaves (Convert name to) held before after bytes = LeavesNothing most_automaton_bytes name before after bytes
Leaves (Stuck name limits) held before after bytes = LeavesNothing most_bytes name before after bytes
Leaves (Synth name inputs limits) held before after bytes = LeavesNothing most_bytes name before after bytes
Leaves (Implies first second limits) held before after bytes = LeavesComparison first second held before after bytes
Leaves (Replay subset observer trace) held before after bytes = LeavesAnswers subset observer trace held before after bytes
Leaves (Sweep seed count) held before after bytes = bytes ≡ []
Leaves (Set question names limits tuples) held before after bytes = LeavesSet names held before after bytes

-- that is what was added to the output, for the request of the words
pub record LeavesOver (words : List (List ℕ)) (before after : Outside) : Type 0 where
  pub request : Request
  pub asked : AsksFor words request
  pub bytes : List ℕ
  pub left : ForHeld before.told (λ held. Leaves request held before after bytes)
  pub added : Appends before.written after.written bytes

-- ---- the files

-- No file was asked for, or the first of those that the request of the words reads.
abbrev pub AsksFrontOf : List (List ℕ) → Option (List (List ℕ)) → Option (List (List ℕ)) → Type 0
AsksFrontOf words old new = Asks [] old new ⊎ ((request : Request) × AsksFor words request × AsksPrefix (files_of request) old new)

-- Each file is opened once, and read to one byte past the greatest size that it may have, a byte at least by each read but the last.
abbrev pub calls_of : Request → ℕ
calls_of (Certify name) = most_automaton_bytes + 2
calls_of (Convert name to) = most_automaton_bytes + 2
calls_of (Implies first second limits) = most_bytes + 2 + (most_bytes + 2)
calls_of (Replay subset observer trace) = most_observer_bytes + 2 + (1 + most_reads)
calls_of (Sweep seed count) = 0
calls_of (Set question names limits tuples) = length names * (most_bytes + 2)
calls_of _ = most_bytes + 2

abbrev pub CallsFew : List (List ℕ) → ℕ → ℕ → Type 0
CallsFew words before after = (after ≡ before) ⊎ ((request : Request) × AsksFor words request × (after ≤ before + calls_of request))

abbrev pub NoneRises : ℕ → ℕ → ℕ → ℕ → Type 0
NoneRises open_before open_after read_before read_after = (open_after ≡ open_before) × (read_after ≡ read_before)

abbrev pub OneRises : ℕ → ℕ → ℕ → ℕ → Type 0
OneRises open_before open_after read_before read_after =
    (Rises open_before open_after × (read_after ≡ read_before)) ⊎ ((open_after ≡ open_before) × Rises read_before read_after)

-- An input that failed ends the run, and so one count has risen. It ends otherwise only where what it had read so far
-- could not be written.
abbrev pub HasInputCause : Status → ℕ → ℕ → ℕ → ℕ → Type 0
HasInputCause Input open_before open_after read_before read_after = OneRises open_before open_after read_before read_after
HasInputCause Output open_before open_after read_before read_after =
    NoneRises open_before open_after read_before read_after ⊎ OneRises open_before open_after read_before read_after
HasInputCause _ open_before open_after read_before read_after = NoneRises open_before open_after read_before read_after

-- ---- the messages

-- The message, or a front of it where the count of faults has risen, is what was added.
pub record Tells (message : List ℕ) (old new : Option (List ℕ)) (faults_before faults_after : ℕ) : Type 0 where
  pub front : AppendsPrefix old new message
  pub whole : IsFalse (has_risen faults_before faults_after) → Appends old new message

-- the message of a status that something outside of the words and the texts brought about
abbrev pub NamesCause : Status → Bool → Bool → List ℕ → Type 0
NamesCause Input open_risen read_risen message =
    ((message ≡ message_of (only Open)) × IsTrue open_risen) ⊎ ((message ≡ message_of (only Read)) × IsTrue read_risen)
NamesCause Output open_risen read_risen message = message ≡ message_of (only Write)
NamesCause Memory open_risen read_risen message = message ≡ message_of (only OutOfMemory)
NamesCause _ open_risen read_risen message = ⊥

-- such a message was told, or a front of it
abbrev pub TellsCause : Status → Bool → Bool → Option (List ℕ) → Option (List ℕ) → ℕ → ℕ → Type 0
TellsCause status open_risen read_risen old new before after =
    OnTrue (has_cause status)
    ((message : List ℕ) × NamesCause status open_risen read_risen message × Tells message old new before after)
