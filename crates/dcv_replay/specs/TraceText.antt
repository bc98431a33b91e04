-- Traces as texts: a line for each instant. A line is a letter's, and ends with a line feed, or a carriage return and a line feed; the
-- last one may lack its end.
--     IsLineEnd end after                 the line ends so, if this follows it
--     BeginsWithLine width text ..        the text begins with the line of the letter, and this follows it
--     AreLines width letters text rest    the text is the lines of the letters, and then the rest
--     IsTrace width text letters          the text is the trace of the word
--     HasBadLine, IsTooLong               after the lines of the word stands one that is none, or more than may come
--     Verdict, HasVerdict                 what a text is as a trace, and the letters of its good lines
use Rattle.std.specs.Prelude.{◌≡◌, ◌≢◌, ℕ, ◌+◌, ◌<◌, ◌≤◌, ◌⊎◌, Bool, List, [], ◌∷◌, ◌++◌, length}
use Rattle.std.specs.List.{All}
use Rattle.dcv_word.specs.Behaviour.{Word}
use Rattle.dcv_word.specs.TraceLine.{line_feed, trace_line}

-- each letter has so many variables
abbrev pub AreWide : ℕ → Word → Type 0
AreWide width word = All (λ letter. length letter ≡ width) word

-- the byte that may stand before the line feed
abbrev pub carriage_return : ℕ
carriage_return = 13

-- a trace has at most this many lines
abbrev pub most_lines : ℕ
most_lines = 1000000

-- a line ends so, if this follows it
abbrev pub IsLineEnd : List ℕ → List ℕ → Type 0
IsLineEnd end after = (end ≡ line_feed ∷ []) ⊎ (end ≡ carriage_return ∷ line_feed ∷ []) ⊎ ((end ≡ []) × (after ≡ []))

-- the text begins with the line of the letter, and this follows it
pub record BeginsWithLine (width : ℕ) (text : List ℕ) (letter : List Bool) (after : List ℕ) : Type 0 where
  pub fits : length letter ≡ width
  pub end : List ℕ
  pub ends : IsLineEnd end after
  pub spelled : text ≡ trace_line letter ++ (end ++ after)

-- the text is the lines of the letters, and then the rest
abbrev pub AreLines : ℕ → Word → List ℕ → List ℕ → Type 0
AreLines width [] text rest = text ≡ rest
AreLines width (letter ∷ letters) text rest = (after : List ℕ) × BeginsWithLine width text letter after × AreLines width letters after rest

-- no line of a letter stands at the front
abbrev pub BeginsWithNoLine : ℕ → List ℕ → Type 0
BeginsWithNoLine width text = (letter : List Bool) (after : List ℕ) → BeginsWithLine width text letter after → ⊥

-- the text is the trace of the word
pub record IsTrace (width : ℕ) (text : List ℕ) (letters : Word) : Type 0 where
  pub some : 0 < length letters
  pub few : length letters ≤ most_lines
  pub lines : AreLines width letters text []

-- the first line that is none has this number, counted from 1, and stands after the lines of the word
pub record HasBadLine (width : ℕ) (text : List ℕ) (letters : Word) (line : ℕ) : Type 0 where
  pub rest : List ℕ
  pub lines : AreLines width letters text rest
  pub few : length letters < most_lines
  pub number : line ≡ length letters + 1
  pub some : rest ≢ []
  pub bad : BeginsWithNoLine width rest

-- there are as many lines as may come, those of the word, and something follows
pub record IsTooLong (width : ℕ) (text : List ℕ) (letters : Word) : Type 0 where
  pub rest : List ℕ
  pub lines : AreLines width letters text rest
  pub full : length letters ≡ most_lines
  pub some : rest ≢ []

-- what a text is as a trace
pub data Verdict : Type 0 where
  Good : (letters : Word) → Verdict
  Bad : (letters : Word) → (line : ℕ) → Verdict
  Long : (letters : Word) → Verdict
  Nothing : Verdict

abbrev pub HasVerdict : ℕ → List ℕ → Verdict → Type 0
HasVerdict width text (Good letters) = IsTrace width text letters
HasVerdict width text (Bad letters line) = HasBadLine width text letters line
HasVerdict width text (Long letters) = IsTooLong width text letters
HasVerdict width text Nothing = text ≡ []

-- the letters of the lines before the fault
abbrev pub good_letters : Verdict → Word
good_letters (Good letters) = letters
good_letters (Bad letters line) = letters
good_letters (Long letters) = letters
good_letters Nothing = []
