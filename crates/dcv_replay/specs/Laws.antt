-- The laws that `src/laws.rt` proves.
use Rattle.std.specs.Prelude.{◌≡◌, ℕ, List, [], ◌++◌}
use Rattle.dcv_word.specs.Behaviour.{Word}
use Rattle.dcv_replay.specs.TraceText.{IsTrace, HasBadLine, IsTooLong, Verdict, HasVerdict, good_letters}
use Rattle.dcv_replay.specs.Replayed.{HasLines}
use Rattle.dcv_replay.specs.Observer.{Observer, width_of, KeepsTheRules, AreAnswers}

-- a text has one verdict at most
abbrev pub OneVerdict : Type 0
OneVerdict = (width : ℕ) (text : List ℕ) (verdict other : Verdict) → HasVerdict width text verdict → HasVerdict width text other → verdict ≡ other

-- and one at least
abbrev pub SomeVerdict : Type 0
SomeVerdict = (width : ℕ) (text : List ℕ) → (verdict : Verdict) × HasVerdict width text verdict

-- no trace has a bad line
abbrev pub NoBadTrace : Type 0
NoBadTrace = (width : ℕ) (text : List ℕ) (letters other : Word) (line : ℕ) → IsTrace width text letters → HasBadLine width text other line → ⊥

-- and none is too long
abbrev pub NoLongTrace : Type 0
NoLongTrace = (width : ℕ) (text : List ℕ) (letters other : Word) → IsTrace width text letters → IsTooLong width text other → ⊥

-- lines at the front of a text are a front of its good lines
abbrev pub LinesAreFront : Type 0
LinesAreFront = (width : ℕ) (text : List ℕ) (letters : Word) (verdict : Verdict) → HasLines width text letters → HasVerdict width text verdict
    → (more : Word) × (good_letters verdict ≡ letters ++ more)

-- ---- answers

-- letters have one text of answers at most
abbrev pub OneText : Type 0
OneText = (observer : Observer) (before letters : Word) (text other : List ℕ) → AreAnswers observer before letters text → AreAnswers observer before letters other
    → text ≡ other

-- that of a front of the letters is a front of it
abbrev pub AnswersOfFront : Type 0
AnswersOfFront = (observer : Observer) (before letters more : Word) (text whole : List ℕ) → AreAnswers observer before letters text
    → AreAnswers observer before (letters ++ more) whole → (rest : List ℕ) × (whole ≡ text ++ rest)

-- the good lines of each text are answered by an observer that keeps the rules of names
abbrev pub GoodLinesAreAnswered : Type 0
GoodLinesAreAnswered = (observer : Observer) → KeepsTheRules observer → (trace : List ℕ) (verdict : Verdict) → HasVerdict (width_of observer) trace verdict
    → (text : List ℕ) × AreAnswers observer [] (good_letters verdict) text
