-- What has come of a trace, while it is read.
--     IsEnded width letter line            the line is the letter's, with its end
--     AreEnded width letters front         the lines of the letters, each with its end
--     HasCome width read letters line      of what was read the lines that ended are those of the letters, and then this line has begun
use Rattle.std.specs.Prelude.{◌≡◌, ◌≢◌, ℕ, ◌+◌, ◌-◌, ◌*◌, ◌<◌, ◌≤◌, ◌⊎◌, Bool, List, [], ◌∷◌, ◌++◌, length, Option, Some, None, Result, Ok, Err}
use Rattle.std.specs.List.{AllByRecursion}
use Rattle.dcv_word.specs.Behaviour.{Word}
use Rattle.dcv_word.specs.TraceLine.{line_feed, trace_line}
use Rattle.dcv_replay.specs.TraceText.{carriage_return, most_lines, BeginsWithNoLine}
use Rattle.dcv_replay.specs.declared.fault.Stop.{Stop}
use Rattle.dcv_replay.specs.declared.fault.Stop.TheVariants.{Read, Line, TooLong, Empty}

-- the line is the letter's, with its end
pub record IsEnded (width : ℕ) (letter : List Bool) (line : List ℕ) : Type 0 where
  pub fits : length letter ≡ width
  pub end : List ℕ
  pub ends : (end ≡ line_feed ∷ []) ⊎ (end ≡ carriage_return ∷ line_feed ∷ [])
  pub spelled : line ≡ trace_line letter ++ end

-- the lines of the letters, each with its end
abbrev pub AreEnded : ℕ → Word → List ℕ → Type 0
AreEnded width [] front = front ≡ []
AreEnded width (letter ∷ letters) front = (line : List ℕ) × (after : List ℕ) × IsEnded width letter line × (front ≡ line ++ after) × AreEnded width letters after

-- of what was read the lines that ended are those of the letters, and then this line has begun
pub record HasCome (width : ℕ) (read : List ℕ) (letters : Word) (line : List ℕ) : Type 0 where
  pub front : List ℕ
  pub ended : AreEnded width letters front
  pub whole : read ≡ front ++ line

abbrev pub HasNoFeed : List ℕ → Type 0
HasNoFeed = AllByRecursion (λ c. c ≢ line_feed)

-- what is kept of a trace between two bytes
pub record LinesValue : Type 0 where
  pub width : ℕ
  -- what has come of the line
  pub line : List ℕ
  -- how many lines ended
  pub count : ℕ

pub record IsLines (lines : LinesValue) : Type 0 where
  pub width : lines.width ≤ 32
  pub short : length lines.line ≤ 34
  pub feedless : HasNoFeed lines.line
  pub few : lines.count ≤ most_lines
  pub last : 0 < length lines.line → lines.count < most_lines

-- however it goes on, this begins with no line
abbrev pub IsBad : ℕ → List ℕ → Type 0
IsBad width line = (more : List ℕ) → BeginsWithNoLine width (line ++ more)

-- how many bytes may come yet, at most
abbrev pub budget : LinesValue → ℕ
budget lines = 35 * (most_lines - lines.count) + (34 - length lines.line)

-- the most reads that a trace asks for: one for each byte of the longest one, where a line has at most 34 bytes and its end, and of a line
-- too many, and one at the end
abbrev pub most_reads : ℕ
most_reads = 35 * most_lines + 35

-- one letter or none
abbrev pub letters_of : Option (List Bool) → Word
letters_of None = []
letters_of (Some letter) = letter ∷ []

-- after the lines so far this is at fault, whatever follows
abbrev pub IsAtFault : LinesValue → List ℕ → Stop → Type 0
IsAtFault lines back Read = ⊥
IsAtFault lines back (Line line) = (line ≡ lines.count + 1) × (lines.count < most_lines) × (back ≢ []) × IsBad lines.width (lines.line ++ back)
IsAtFault lines back TooLong = (lines.count ≡ most_lines) × (back ≢ [])
IsAtFault lines back Empty = ⊥

-- the line is the front, and maybe a carriage return after it, of which none is left
abbrev pub IsWithoutReturn : List ℕ → List ℕ → Type 0
IsWithoutReturn line front = (line ≡ front ++ carriage_return ∷ []) ⊎ ((line ≡ front) × ((other : List ℕ) → line ≢ other ++ carriage_return ∷ []))

-- what the end of a trace is
abbrev pub IsLast : LinesValue → Result (Option (List Bool)) Stop → Type 0
IsLast lines (Ok None) = (lines.line ≡ []) × (0 < lines.count)
IsLast lines (Ok (Some letter)) = (length letter ≡ lines.width) × (lines.line ≡ trace_line letter) × (lines.count < most_lines)
IsLast lines (Err Read) = ⊥
IsLast lines (Err (Line line)) = (line ≡ lines.count + 1) × (lines.count < most_lines) × (lines.line ≢ []) × BeginsWithNoLine lines.width lines.line
IsLast lines (Err TooLong) = ⊥
IsLast lines (Err Empty) = (lines.line ≡ []) × (lines.count ≡ 0)
