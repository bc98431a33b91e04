-- What a run promises.
--     Seen               what is seen of the files and of both streams
--     Promise words ..   how a run of these words ends, between what is seen before it and after it
--     not_utf8           what is said where the arguments of the process are no text
use Rattle.std.specs.Bool.{OnTrue}
use Rattle.std.specs.Prelude.{◌≡◌, ◌≢◌, ◌⊎◌, ℕ, true, List, [], Option, IsTrue, IsFalse, codes}
use Rattle.dcv_io.specs.declared.files.Files.{Ghosts as WordsOfFiles}
use Rattle.dcv_io.specs.declared.sink.Sink.{Ghosts as WordsOfSink}
use Rattle.dcv_cli.specs.Common.{held_of, has_risen, RisesIf}
use Rattle.dcv_cli.specs.Common.{Appends, line, Request, IsTaken, Status, Usage, Memory}
use Rattle.clap.specs.Words.{takes}
use Rattle.dcv_command.specs.Program.{program}
use Rattle.dcv_cli.specs.Ending.{EndsBy, AddsFront, StopsWithin, LeavesOver, AsksFrontOf, CallsFew, HasInputCause, Tells, TellsCause}
use Rattle.dcv_cli.specs.Outside.{Outside, outside}
use Rattle.dcv_cli.specs.Request.{AsksFor}
use Rattle.dcv_cli.specs.Right.{IsRightOver}
use Rattle.dcv_cli.specs.Status.{is_answer, is_determined, is_input, is_of_request, is_output, is_silent, is_usage}

-- the files and the output, and the messages: what was written there, and how many writes have failed
pub record Seen : Type 0 where
  pub outside : Outside
  pub messages : Option (List ℕ)
  pub message_faults : ℕ

-- of these files, this output and these messages, by the words of their traits
abbrev pub seen : {F O E : Type 0} → WordsOfFiles F → WordsOfSink O → WordsOfSink E → F → O → E → Seen
seen files_words out_words err_words files out err =
    record { outside = outside files_words out_words files out; messages = err_words.written err; message_faults = err_words.faults err }

-- this is the message, or a prefix of it where a write of it failed
abbrev pub Says : Seen → Seen → List ℕ → Type 0
Says before after message = Tells message before.messages after.messages before.message_faults after.message_faults

abbrev pub SaysSomething : Seen → Seen → Type 0
SaysSomething before after = (message : List ℕ) × (message ≢ []) × Says before after message

-- no open, read or write has failed
pub record NoFault (before after : Outside) : Type 0 where
  pub opened : IsFalse (has_risen before.open_faults after.open_faults)
  pub read : IsFalse (has_risen before.read_faults after.read_faults)
  pub wrote : IsFalse (has_risen before.faults after.faults)

pub record Promise (words : List (List ℕ)) (status : Status) (before after : Seen) : Type 0 where
  -- Where the words and what is held determine the end, it is a right one: status, report and message.
  pub right : OnTrue (is_determined status) (EndsBy (IsRightOver words before.outside.told) status before.outside.written after.outside.written (Says before after))
  -- Words that are taken end in such a way, where no call of the outside failed and memory did not run out.
  pub complete : IsTaken words → NoFault before.outside after.outside → IsTrue (is_determined status) ⊎ (status ≡ Memory)
  -- However the run ended, nothing but a prefix of a right report is on the output.
  pub report : AddsFront (IsRightOver words before.outside.told) before.outside.written after.outside.written
  -- Words that are taken are never refused, and a run that does anything does what they ask for.
  pub usage : status ≡ Usage → ¬ (IsTaken words)
  pub takes : status ≡ Usage → ¬ (takes program words ≡ true)
  -- A refusal of the words says something, and so does what is written where help is asked for.
  pub refusal : OnTrue (is_usage status) (SaysSomething before after)
  pub asked : IsTrue (is_of_request status) → (request : Request) × AsksFor words request
  -- Each other status has its cause, and no cause is passed over.
  pub files : AsksFrontOf words before.outside.asked after.outside.asked
  pub calls : CallsFew words before.outside.calls after.outside.calls
  pub input : HasInputCause status before.outside.open_faults after.outside.open_faults before.outside.read_faults after.outside.read_faults
  pub output : RisesIf (is_output status) before.outside.faults after.outside.faults
  -- The message names it.
  pub cause : TellsCause status (has_risen before.outside.open_faults after.outside.open_faults) (has_risen before.outside.read_faults after.outside.read_faults)
      before.messages after.messages before.message_faults after.message_faults
  -- An answer says nothing on the messages, and a refusal before it nothing on the output. Where an input failed, a replay has answered the lines
  -- of the trace that were read.
  pub no_message : OnTrue (is_answer status) (Appends before.messages after.messages [])
  pub no_report : OnTrue (is_silent status) (Appends before.outside.written after.outside.written [])
  pub stops : OnTrue (is_output status) (StopsWithin (IsRightOver words before.outside.told) before.outside.written after.outside.written)
  pub left : OnTrue (is_input status) (LeavesOver words before.outside after.outside)
  -- What the files hold stays.
  pub held : held_of after.outside.told ≡ held_of before.outside.told

abbrev pub not_utf8 : List ℕ
not_utf8 = line (codes "the arguments are not UTF-8 text")
