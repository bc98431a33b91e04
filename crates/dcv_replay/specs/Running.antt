-- A run under way.
--     Going                             a replay under way: the observer, what has come of the trace, what is written, and the answers that are not
--     Passes before bytes after         taking these bytes leads there
--     StopsAt, Breaks                   the same for a front of the bytes, where a fault of the trace or of the sink comes
--     IsEnding                          what a trace makes of a run
--     Ran, RunsOver                     and what becomes of the observer and of what is written
use Rattle.std.specs.Prelude.{◌≡◌, ◌≢◌, ℕ, ◌+◌, ◌<◌, ◌⊎◌, Bool, true, false, List, [], ◌∷◌, ◌++◌, length, Option, None, Some, Result, Ok, Err, IfSome}
use Rattle.dcv_word.specs.Behaviour.{Word}
use Rattle.dcv_word.specs.TraceLine.{trace_line}
use Rattle.dcv_io.specs.Disk.{Disk}
use Rattle.dcv_replay.specs.TraceText.{most_lines, BeginsWithNoLine, IsTrace, HasBadLine, IsTooLong, AreWide}
use Rattle.dcv_replay.specs.Coming.{LinesValue, HasCome, HasNoFeed, IsAtFault}
use Rattle.dcv_replay.specs.Answers.{answers}
use Rattle.dcv_replay.specs.Program.{ReplayValue, rest_of, advanced}
use Rattle.dcv_replay.specs.Replayed.{Sends, HasLines, Traced, is_open, is_write}
use Rattle.dcv_replay.specs.declared.fault.ReplayFault.{ReplayFault}
use Rattle.dcv_replay.specs.declared.fault.ReplayFault.TheVariants.{Write}
use Rattle.dcv_replay.specs.declared.fault.Stop.{Stop}
use Rattle.dcv_replay.specs.declared.fault.Stop.TheVariants as stop
use Rattle.dcv_replay.specs.Stops.{fault_of}

pub record Going : Type 0 where
  pub replay : ReplayValue
  pub lines : LinesValue
  pub written : Option (List ℕ)
  pub block : List ℕ

abbrev pub going : ReplayValue → LinesValue → Option (List ℕ) → List ℕ → Going
going replay lines written block = record { replay = replay; lines = lines; written = written; block = block }

-- the letters were answered
pub record Answered (before : ReplayValue) (written : Option (List ℕ)) (block : List ℕ) (letters : Word) (after : ReplayValue) (written' : Option (List ℕ)) (left : List ℕ) : Type 0 where
  pub replay : after ≡ advanced before letters
  pub sends : Sends written written' (block ++ answers (rest_of before) letters) left

-- taking these bytes leads there
pub record Passes (before : Going) (bytes : List ℕ) (after : Going) : Type 0 where
  pub letters : Word
  pub come : HasCome before.lines.width (before.lines.line ++ bytes) letters after.lines.line
  pub width : after.lines.width ≡ before.lines.width
  pub count : after.lines.count ≡ before.lines.count + length letters
  pub answered : Answered before.replay before.written before.block letters after.replay after.written after.block

-- taking a front of the bytes leads to a fault of the trace
pub record StopsAt (before : Going) (bytes : List ℕ) (after : Going) (why : Stop) : Type 0 where
  pub taken : List ℕ
  pub back : List ℕ
  pub parts : bytes ≡ taken ++ back
  pub passes : Passes before taken after
  pub fault_there : IsAtFault after.lines back why

-- taking a front of the bytes leads to a write that fails
pub record Breaks (before : Going) (bytes : List ℕ) (replay : ReplayValue) (lines : LinesValue) (written : Option (List ℕ)) : Type 0 where
  pub taken : List ℕ
  pub back : List ℕ
  pub parts : bytes ≡ taken ++ back
  pub left : List ℕ
  pub some : left ≢ []
  pub passes : Passes before taken (going replay lines written left)

-- what taking bytes leads to, if no write failed
abbrev pub Leads : Going → List ℕ → Going → Option Stop → Type 0
Leads before bytes after None = Passes before bytes after
Leads before bytes after (Some why) = StopsAt before bytes after why

-- how the run over an open trace ends, if the letters were answered
abbrev pub IsEnding : ℕ → List ℕ → Word → Option Stop → Type 0
IsEnding width text letters None = IsTrace width text letters
IsEnding width text letters (Some stop.Read) = HasLines width text letters
IsEnding width text letters (Some (stop.Line line)) = HasBadLine width text letters line
IsEnding width text letters (Some stop.TooLong) = IsTooLong width text letters
IsEnding width text letters (Some stop.Empty) = (text ≡ []) × (letters ≡ [])

-- where a read failed, the letters are those of the lines that ended in what was read before
abbrev pub IsCut : ℕ → Option Stop → List ℕ → Word → Type 0
IsCut width None read letters = Unit {0}
IsCut width (Some stop.Read) read letters = (line : List ℕ) × HasCome width read letters line × HasNoFeed line
IsCut width (Some (stop.Line line)) read letters = Unit {0}
IsCut width (Some stop.TooLong) read letters = Unit {0}
IsCut width (Some stop.Empty) read letters = Unit {0}

-- so much of the open file was read, and the rest is left; where files tell nothing, some text
pub record IsFront (read : List ℕ) (told told' : Option Disk) : Type 0 where
  pub rest : List ℕ
  pub whole : IfSome told (λ disk. disk.open ≡ Some (read ++ rest))
  pub left : IfSome told' (λ disk. disk.open ≡ Some rest)

-- of a file that is open this much was read, and this became of the replay
pub record Ran (P C : List ℕ → Word → Type 0) (told told' : Option Disk) (before : ReplayValue) (written : Option (List ℕ)) (block : List ℕ) (after : ReplayValue) (written' : Option (List ℕ)) (left : List ℕ) : Type 0 where
  pub letters : Word
  pub wide : AreWide before.program.width letters
  pub answered : Answered before written block letters after written' left
  pub read : List ℕ
  pub front : IsFront read told told'
  pub cut : C read letters
  pub verdict : P (read ++ front.rest) letters

abbrev pub is_read : Option Stop → Bool
is_read (Some stop.Read) = true
is_read _ = false

-- what the end of a trace is: the letters of a last line that lacks its end, or the fault
abbrev pub IsEndOf : LinesValue → Word → Option Stop → Type 0
IsEndOf lines [] None = (lines.line ≡ []) × (0 < lines.count)
IsEndOf lines (letter ∷ []) None = (length letter ≡ lines.width) × (lines.line ≡ trace_line letter) × (lines.count < most_lines)
IsEndOf lines (letter ∷ (other ∷ letters)) None = ⊥
IsEndOf lines letters (Some stop.Read) = ⊥
IsEndOf lines letters (Some (stop.Line line)) = (letters ≡ []) × (line ≡ lines.count + 1) × (lines.count < most_lines) × (lines.line ≢ []) × BeginsWithNoLine lines.width lines.line
IsEndOf lines letters (Some stop.TooLong) = ⊥
IsEndOf lines letters (Some stop.Empty) = (letters ≡ []) × (lines.line ≡ []) × (lines.count ≡ 0)

-- how the end of a trace is taken: the last line is answered, if it lacks its end
pub record EndsSo (before after : Going) (why : Option Stop) : Type 0 where
  pub letters : Word
  pub last : IsEndOf before.lines letters why
  pub answered : Answered before.replay before.written before.block letters after.replay after.written after.block

pub record BreaksOff (before : Going) (replay : ReplayValue) (written : Option (List ℕ)) : Type 0 where
  pub letter : List Bool
  pub last : IsEndOf before.lines (letter ∷ []) None
  pub left : List ℕ
  pub some : left ≢ []
  pub answered : Answered before.replay before.written before.block (letter ∷ []) replay written left

abbrev pub IsResultOf : {T : Type 0} → Option Stop → Result T ReplayFault → Type 0
IsResultOf None (Ok done) = Unit {0}
IsResultOf (Some why) (Ok done) = ⊥
IsResultOf None (Err fault) = ⊥
IsResultOf (Some why) (Err fault) = fault ≡ fault_of why

-- what is left is written, and the run ends so
pub record EndsBy {T : Type 0} (why : Option Stop) (written written' : Option (List ℕ)) (block : List ℕ) (result : Result T ReplayFault) : Type 0 where
  pub left : List ℕ
  pub sends : Sends written written' block left
  pub is : ((result ≡ Err Write) × (left ≢ [])) ⊎ ((left ≡ []) × IsResultOf why result)

-- what was answered by a run over the file of a name, by the replay's own program
pub record RunsOver {T : Type 0} (name : List ℕ) (told told' : Option Disk) (before : ReplayValue) (written : Option (List ℕ)) (after : ReplayValue) (written' : Option (List ℕ)) (result : Result T ReplayFault) : Type 0 where
  pub letters : Word
  pub wide : AreWide before.program.width letters
  pub left : List ℕ
  pub answered : Answered before written [] letters after written' left
  pub whole : is_write result ≡ false → left ≡ []
  pub some : is_write result ≡ true → left ≢ []
  pub unopened : is_open result ≡ true → letters ≡ []
  pub traced : is_open result ≡ false → Traced before.program.width name told told' letters result
