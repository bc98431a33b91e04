-- What each command keeps to, whatever it is asked for. The clauses of `run` are these, with the message.
--     Takes limit name result ..       a file of at most so many bytes was taken, or is refused
--     ending result, said result       the status of a command, and the line that says why it gives no answer
--     Ends Right result old new        what it has written, and how it ended
--     Performs Right Left names calls ..    and what it has read
--     PerformsRequest request ..       it does what the request asks for
--     Answers Right result ..          it ends so after its last file
--     Replies status report result ..  the report was written, or a write of it failed
use Rattle.std.specs.Bool.{OnTrue}
use Rattle.std.specs.Prelude.{◌≡◌, ◌≤◌, ◌+◌, ℕ, Bool, false, List, [], ◌∷◌, Result, Ok, Err, IsTrue, IsFalse, IfOk, IfErr}
use Rattle.dcv_cli.specs.Common.{Asks, AsksPrefix}
use Rattle.dcv_cli.specs.Common.{held_of, has_risen, Rises, RisesIf, Appends, AppendsStrictPrefix, Request, files_of, Refused, Refusal}
use Rattle.dcv_cli.specs.Common.{Write, Status, Only}
use Rattle.dcv_io.specs.Disk.{WhereTold, ReadsAtMost}
use Rattle.dcv_cli.specs.Ending.{EndsBy, AddsFront, StopsWithin, Leaves, LeavesNothing, HasInputCause, calls_of}
use Rattle.dcv_cli.specs.Held.{ForHeld}
use Rattle.dcv_cli.specs.Outcome.{Outcome}
use Rattle.dcv_cli.specs.Outside.{Outside, Stream, output_of}
use Rattle.dcv_cli.specs.Refusal.{status_of, message_of, only, is_err_and, is_open, is_read, is_of_taking}
use Rattle.dcv_cli.specs.Right.{FulfilsOver}
use Rattle.dcv_cli.specs.Status.{has_cause, is_answer, is_determined, is_silent, is_input, is_output}

-- A file of this name was asked for. No fault is passed over, and none is invented; and what the files hold stays.
pub record Takes {T : Type 0} (limit : ℕ) (name : List ℕ) (result : Result T Refusal) (before after : Outside) : Type 0 where
  pub asked : Asks (name ∷ []) before.asked after.asked
  -- Whatever the outcome, at most one byte past the limit was read, in at most as many reads.
  pub calls : after.calls ≤ before.calls + limit + 2
  pub bytes : WhereTold (ReadsAtMost name (limit + 1)) before.told after.told
  pub opened : RisesIf (is_err_and is_open result) before.open_faults after.open_faults
  pub read : RisesIf (is_err_and is_read result) before.read_faults after.read_faults
  pub taking : IfErr result (λ refusal. IsTrue (is_of_taking refusal))
  pub held : held_of after.told ≡ held_of before.told

-- ---- a command

abbrev pub ending : Result Status Refused → Status
ending (Ok status) = status
ending (Err refused) = status_of refused.refusal

abbrev pub said : Result Status Refused → List ℕ
said (Ok status) = []
said (Err refused) = message_of refused

-- it ended since a file could not be opened, or be read
abbrev pub is_open_refusal : Result Status Refused → Bool
is_open_refusal (Ok status) = false
is_open_refusal (Err refused) = is_open refused.refusal

abbrev pub is_read_refusal : Result Status Refused → Bool
is_read_refusal (Ok status) = false
is_read_refusal (Err refused) = is_read refused.refusal

-- `Right` says which outcomes are right.
pub record Ends (Right : Outcome → Type 0) (result : Result Status Refused) (old new : Stream) : Type 0 where
  -- Where the texts determine the end, it is that of a right outcome. A command that answers does so without a message.
  pub right : OnTrue (is_determined (ending result)) (EndsBy Right (ending result) old.written new.written (λ message. message ≡ said result))
  pub answer : IfOk result (λ status. IsTrue (is_answer status))
  -- Nothing but a front of a right report is written: none of it before a refusal that comes before the first byte, and some of it is
  -- missing where the output fails.
  pub front : AddsFront Right old.written new.written
  pub silent : OnTrue (is_silent (ending result)) (Appends old.written new.written [])
  pub stops : OnTrue (is_output (ending result)) (StopsWithin Right old.written new.written)
  pub output : RisesIf (is_output (ending result)) old.faults new.faults
  -- A refusal that the outside brought about is of no file.
  pub of_none : IfErr result (λ refused. OnTrue (has_cause (status_of refused.refusal)) (refused.which ≡ Only))

-- `Left` says what was written where an input failed, and `names` are the files that are read, by at most so many calls.
pub record Performs (Right : Outcome → Type 0) (Left : Outside → Outside → List ℕ → Type 0) (names : List (List ℕ)) (most : ℕ) (result : Result Status Refused) (before after : Outside) : Type 0 where
  pub ends : Ends Right result (output_of before) (output_of after)
  pub left : OnTrue (is_input (ending result)) ((bytes : List ℕ) × Left before after bytes × Appends before.written after.written bytes)
  -- Its files are asked for in order, no fault is passed over, and none is invented.
  pub asked : AsksPrefix names before.asked after.asked
  pub calls : after.calls ≤ before.calls + most
  pub input : HasInputCause (ending result) before.open_faults after.open_faults before.read_faults after.read_faults
  pub opened : OnTrue (is_open_refusal result) (IsTrue (has_risen before.open_faults after.open_faults))
  pub read : OnTrue (is_read_refusal result) (IsTrue (has_risen before.read_faults after.read_faults))
  pub held : held_of after.told ≡ held_of before.told

-- what was written for the request, where an input failed
abbrev pub LeavesFor : Request → Outside → Outside → List ℕ → Type 0
LeavesFor request before after bytes = ForHeld before.told (λ held. Leaves request held before after bytes)

abbrev pub PerformsRequest : Request → Result Status Refused → Outside → Outside → Type 0
PerformsRequest request result before after =
    Performs (FulfilsOver request before.told) (LeavesFor request) (files_of request) (calls_of request) result before after

-- ---- after the last file

-- the same where that is the file of one name
abbrev pub LeavesOne : ℕ → List ℕ → Outside → Outside → List ℕ → Type 0
LeavesOne limit name before after bytes = ForHeld before.told (λ held. LeavesNothing limit name before after bytes)

-- no input fails any more
pub record Answers (Right : Outcome → Type 0) (result : Result Status Refused) (old new : Stream) : Type 0 where
  pub ends : Ends Right result old new
  pub no_input : IsFalse (is_input (ending result))

abbrev pub Replies : Status → List ℕ → Result Status Refused → Stream → Stream → Type 0
Replies status report (Ok answer) old new = (answer ≡ status) × Appends old.written new.written report × (new.faults ≡ old.faults)
Replies status report (Err refused) old new = (refused ≡ only Write) × AppendsStrictPrefix old.written new.written report × Rises old.faults new.faults
