-- What a run over a trace does.
--     Sends old new bytes left          some of the bytes were written, and the others are left
--     IsTraceResult                     what a trace makes of a run
--     Traced width name told ..         the trace that was opened, and what it made of the run
--     Replayed observer before ..       the answers are the observer's, and its store is the replay's
use Rattle.std.specs.Prelude.{◌≡◌, ◌≢◌, ℕ, ◌≤◌, Bool, true, false, List, [], ◌++◌, length, Option, Some, Result, Ok, Err, IfSome}
use Rattle.dcv_word.specs.Behaviour.{Word}
use Rattle.dcv_io.specs.Disk.{Disk, held_of}
use Rattle.dcv_io.specs.Faults.{Rises}
use Rattle.dcv_io.specs.Written.{appended}
use Rattle.dcv_replay.specs.TraceText.{most_lines, AreLines, IsTrace, HasBadLine, IsTooLong}
use Rattle.dcv_replay.specs.Coming.{HasCome, HasNoFeed}
use Rattle.dcv_replay.specs.Program.{ReplayValue}
use Rattle.dcv_replay.specs.Observer.{Observer, width_of, Follows, AreAnswers}
use Rattle.dcv_replay.specs.declared.fault.ReplayFault.{ReplayFault}
use Rattle.dcv_replay.specs.declared.fault.ReplayFault.TheVariants.{Open, Read, Line, TooLong, Empty, Write}

-- of these bytes some from the front were written, and the others are left
pub record Sends (old new : Option (List ℕ)) (bytes left : List ℕ) : Type 0 where
  pub sent : List ℕ
  pub written : new ≡ appended old sent
  pub all : bytes ≡ sent ++ left

-- the letters are those of some lines at the front
pub record HasLines (width : ℕ) (text : List ℕ) (letters : Word) : Type 0 where
  pub rest : List ℕ
  pub lines : AreLines width letters text rest
  pub few : length letters ≤ most_lines

-- what a trace that was opened makes of a replay, if its first lines were answered
abbrev pub IsTraceResult : {T : Type 0} → ℕ → List ℕ → Word → Result T ReplayFault → Type 0
IsTraceResult width text letters (Ok done) = IsTrace width text letters
IsTraceResult width text letters (Err Open) = ⊥
IsTraceResult width text letters (Err Read) = HasLines width text letters
IsTraceResult width text letters (Err (Line line)) = HasBadLine width text letters line
IsTraceResult width text letters (Err TooLong) = IsTooLong width text letters
IsTraceResult width text letters (Err Empty) = (text ≡ []) × (letters ≡ [])
IsTraceResult width text letters (Err Write) = HasLines width text letters

abbrev pub is_open : {T : Type 0} → Result T ReplayFault → Bool
is_open (Err Open) = true
is_open _ = false

abbrev pub is_write : {T : Type 0} → Result T ReplayFault → Bool
is_write (Err Write) = true
is_write _ = false

-- a read failed: the letters are those of the lines that ended in what was read before, and the rest is left to read
pub record CutShort (width : ℕ) (trace : List ℕ) (told' : Option Disk) (letters : Word) : Type 0 where
  pub read : List ℕ
  pub rest : List ℕ
  pub parts : trace ≡ read ++ rest
  pub left : IfSome told' (λ disk. disk.open ≡ Some rest)
  pub line : List ℕ
  pub come : HasCome width read letters line
  pub feedless : HasNoFeed line

abbrev pub IfRead : {T : Type 0} → Result T ReplayFault → Type 0 → Type 0
IfRead (Err Read) P = P
IfRead _ P = Unit {0}

-- This trace was opened, that which is held under the name where that is told.
pub record Traced {T : Type 0} (width : ℕ) (name : List ℕ) (told told' : Option Disk) (letters : Word) (result : Result T ReplayFault) : Type 0 where
  pub trace : List ℕ
  pub there : IfSome (held_of told) (λ held. held name ≡ Some trace)
  pub verdict : IsTraceResult width trace letters result
  pub cut : IfRead result (CutShort width trace told' letters)

-- the count of failed reads: it rises where a read failed, and maybe did where a write failed then
abbrev pub ReadCount : {T : Type 0} → Result T ReplayFault → ℕ → ℕ → Type 0
ReadCount (Err Read) before after = Rises before after
ReadCount (Err Write) before after = before ≤ after
ReadCount _ before after = after ≡ before

-- What a run over the file of a name did, that began after a word. Where no write failed, all answers stand on the sink, and else a front of them.
pub record Replayed {T : Type 0} (observer : Observer) (before : Word) (name : List ℕ) (told told' : Option Disk) (written written' : Option (List ℕ))
    (after : ReplayValue) (result : Result T ReplayFault) : Type 0 where
  -- those of the lines that were answered
  pub letters : Word
  pub follows : Follows observer (before ++ letters) after
  pub text : List ℕ
  pub answers : AreAnswers observer before letters text
  pub left : List ℕ
  pub sends : Sends written written' text left
  pub whole : is_write result ≡ false → left ≡ []
  pub some : is_write result ≡ true → left ≢ []
  -- a trace that could not be opened has no answers
  pub unopened : is_open result ≡ true → letters ≡ []
  pub traced : is_open result ≡ false → Traced (width_of observer) name told told' letters result
