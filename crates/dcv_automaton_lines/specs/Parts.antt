-- The parts of an automaton's text as sets of texts: words, lines without their first word, and what may follow after a line.
--     NumberWord, NodeWord, TargetWord, AnswerWord, NameWord, LetterWord    words of each kind
--     NodeBody, StateBody, AccessBody, SuffixBody    lines without their first word
--     words_then words rest      the words of a line, each with the byte after it, and then the rest
--     version_at steps           version 2 where there is a step part, else version 1
--     StepTail                   step lines up to the end
--     closing_word version       the word that closes the sections: `end`, or the first one of the step part
--     closing_then version rest  that word with the byte after it, and then the rest
--     Closed version             what stands after the closing word
--     keyword version kind       the first word of a line of this kind, or the closing word
--     rank kind                  the place of the lines of this kind among the sections
--     LineOf version kind        lines of this kind, or the closing word with the byte after it
--     Keyword version first      first words with the byte after them, from the lines of this kind on
--     AnyLine version first      a line of this kind or a later one
--     Tail version first         what follows where the next line is of this kind or a later one
--     After version kind         what follows after a line of this kind
--     Words                      one name or more, with a space between every two and a line feed after the last
--     Whole                      the whole text
use Rattle.std.specs.Prelude.{◌≡◌, ℕ, ◌≤◌, Bool, List, [], ◌∷◌, ◌++◌, Option, None, Some, codes}
use Rattle.std.specs.Fmt.{decimal}
use Rattle.dcv_word.specs.TraceLine.{trace_line}
use Rattle.dcv_language.specs.declared.child.Child.{Child}
use Rattle.dcv_automaton_text.specs.File.{StepPart}
use Rattle.dcv_automaton_text.specs.Form.{IsNumber, IsTarget, IsNameWord}
use Rattle.dcv_automaton_text.specs.Spelled.{node_word, target_word, answer_word}
use Rattle.dcv_automaton_lines.specs.Pieces.{Exactly, Nothing, Followed, Either}
use Rattle.dcv_automaton_lines.specs.declared.sections.Kind.{Kind}
use Rattle.dcv_automaton_lines.specs.declared.sections.Kind.TheVariants.{Node, State, Access, Suffix, Closing}
use Rattle.dcv_automaton_lines.specs.declared.version.Version.{Version}
use Rattle.dcv_automaton_lines.specs.declared.version.Version.TheVariants.{First, Second}

-- ---- words

pub record NumberWord (text : List ℕ) : Type 0 where
  pub number : ℕ
  pub small : IsNumber number
  pub is : text ≡ decimal number

pub record NodeWord (text : List ℕ) : Type 0 where
  pub number : ℕ
  pub small : IsNumber number
  pub is : text ≡ node_word number

pub record TargetWord (text : List ℕ) : Type 0 where
  pub target : Child
  pub small : IsTarget target
  pub is : text ≡ target_word target

pub record AnswerWord (text : List ℕ) : Type 0 where
  pub accepting : Bool
  pub is : text ≡ answer_word accepting

pub record NameWord (text : List ℕ) : Type 0 where
  pub is : IsNameWord text

pub record LetterWord (text : List ℕ) : Type 0 where
  pub letter : List Bool
  pub is : text ≡ trace_line letter

-- ---- lines without their first word, from their last words on

abbrev pub NodeLo : List ℕ → Type 0
NodeLo = Followed TargetWord 10 Nothing

abbrev pub NodeColon : List ℕ → Type 0
NodeColon = Followed (Exactly (codes ":")) 32 NodeLo

abbrev pub NodeHi : List ℕ → Type 0
NodeHi = Followed TargetWord 32 NodeColon

abbrev pub NodeMark : List ℕ → Type 0
NodeMark = Followed (Exactly (codes "?")) 32 NodeHi

abbrev pub NodeName : List ℕ → Type 0
NodeName = Followed NameWord 32 NodeMark

abbrev pub NodeBody : List ℕ → Type 0
NodeBody = Followed NodeWord 32 NodeName

abbrev pub StateRow : List ℕ → Type 0
StateRow = Followed TargetWord 10 Nothing

abbrev pub StateAnswer : List ℕ → Type 0
StateAnswer = Followed AnswerWord 32 StateRow

abbrev pub StateBody : List ℕ → Type 0
StateBody = Followed NumberWord 32 StateAnswer

abbrev pub LastLetter : List ℕ → Type 0
LastLetter = Followed LetterWord 10 Nothing

abbrev pub EmptyHow : List ℕ → Type 0
EmptyHow = Followed (Exactly (codes "empty")) 10 Nothing

abbrev pub StartHow : List ℕ → Type 0
StartHow = Followed (Exactly (codes "start")) 32 LastLetter

abbrev pub AfterHow : List ℕ → Type 0
AfterHow = Followed NumberWord 32 LastLetter

abbrev pub AccessHow : List ℕ → Type 0
AccessHow = Either EmptyHow (Either StartHow AfterHow)

abbrev pub AccessBody : List ℕ → Type 0
AccessBody = Followed NumberWord 32 AccessHow

abbrev pub LastNumber : List ℕ → Type 0
LastNumber = Followed NumberWord 10 Nothing

abbrev pub ThenHow : List ℕ → Type 0
ThenHow = Followed LetterWord 32 LastNumber

abbrev pub SuffixHow : List ℕ → Type 0
SuffixHow = Either EmptyHow ThenHow

abbrev pub SuffixBody : List ℕ → Type 0
SuffixBody = Followed NumberWord 32 SuffixHow

abbrev pub StepNodes : List ℕ → Type 0
StepNodes = Followed (Exactly (codes "nodes")) 32 LastNumber

abbrev pub StepStatesNumber : List ℕ → Type 0
StepStatesNumber = Followed NumberWord 32 StepNodes

abbrev pub StepStates : List ℕ → Type 0
StepStates = Followed (Exactly (codes "states")) 32 StepStatesNumber

abbrev pub StepPlace : List ℕ → Type 0
StepPlace = Followed NumberWord 32 StepStates

abbrev pub StepAt : List ℕ → Type 0
StepAt = Followed (Exactly (codes "at")) 32 StepPlace

abbrev pub StepBody : List ℕ → Type 0
StepBody = Followed NumberWord 32 StepAt

-- words with a space between every two and a line feed after the last, and then a rest
abbrev pub words_then : List (List ℕ) → List ℕ → List ℕ
words_then [] rest = rest
words_then (word ∷ []) rest = word ++ 10 ∷ rest
words_then (word ∷ next ∷ words) rest = word ++ 32 ∷ words_then (next ∷ words) rest

-- ---- after the sections

-- the version that a step part belongs to
abbrev pub version_at : Option StepPart → Version
version_at None = First
version_at (Some part) = Second

abbrev pub EndLine : List ℕ → Type 0
EndLine = Exactly (codes "end\n")

abbrev pub WholeStep : List ℕ → Type 0
WholeStep = Followed (Exactly (codes "step")) 32 StepBody

-- a line of a step, and then what may follow it; nothing after the end
pub data StepTail : List ℕ → Type 0 where
  NoStep : (text : List ℕ) → EndLine text → StepTail text
  NextStep : (text front back : List ℕ) → WholeStep front → StepTail back → text ≡ front ++ back → StepTail text

-- version 1 ends there; in version 2 the number of steps stands there, and then their lines
abbrev pub Closed : Version → List ℕ → Type 0
Closed First = Nothing
Closed Second = Followed NumberWord 10 StepTail

-- the word that closes the sections, and the byte after it
abbrev pub closing_word : Version → List ℕ
closing_word First = codes "end"
closing_word Second = codes "steps"

abbrev pub closing_end : Version → ℕ
closing_end First = 10
closing_end Second = 32

abbrev pub closing_then : Version → List ℕ → List ℕ
closing_then version rest = closing_word version ++ closing_end version ∷ rest

-- ---- lines

abbrev pub keyword : Version → Kind → List ℕ
keyword version Node = codes "node"
keyword version State = codes "state"
keyword version Access = codes "access"
keyword version Suffix = codes "suffix"
keyword version Closing = closing_word version

-- the byte after the first word
abbrev pub behind : Version → Kind → ℕ
behind version Node = 32
behind version State = 32
behind version Access = 32
behind version Suffix = 32
behind version Closing = closing_end version

-- both
abbrev pub first_word : Version → Kind → List ℕ
first_word version kind = keyword version kind ++ behind version kind ∷ []

abbrev pub rank : Kind → ℕ
rank Node = 0
rank State = 1
rank Access = 2
rank Suffix = 3
rank Closing = 4

abbrev pub BodyOf : Kind → List ℕ → Type 0
BodyOf Node = NodeBody
BodyOf State = StateBody
BodyOf Access = AccessBody
BodyOf Suffix = SuffixBody
BodyOf Closing = Nothing

pub record LineOf (version : Version) (kind : Kind) (text : List ℕ) : Type 0 where
  pub body : List ℕ
  pub body_is : BodyOf kind body
  pub whole : text ≡ keyword version kind ++ behind version kind ∷ body

pub record Keyword (version : Version) (first : Kind) (text : List ℕ) : Type 0 where
  pub kind : Kind
  pub later : rank first ≤ rank kind
  pub whole : text ≡ first_word version kind

-- a line of this kind or a later one
pub record AnyLine (version : Version) (first : Kind) (text : List ℕ) : Type 0 where
  pub kind : Kind
  pub later : rank first ≤ rank kind
  pub line_is : LineOf version kind text

-- a line, and then what may follow a line of its kind; after the word that closes the sections what the version says
pub data Tail (version : Version) : Kind → List ℕ → Type 0 where
  Last : (first : Kind) (text front back : List ℕ) → LineOf version Closing front → Closed version back → text ≡ front ++ back → Tail version first text
  More : (first kind : Kind) (text front back : List ℕ) → rank first ≤ rank kind → rank kind ≤ 3 → LineOf version kind front → Tail version kind back
      → text ≡ front ++ back → Tail version first text

abbrev pub After : Version → Kind → List ℕ → Type 0
After version Node = Tail version Node
After version State = Tail version State
After version Access = Tail version Access
After version Suffix = Tail version Suffix
After version Closing = Closed version

-- ---- the head

pub data Words : List ℕ → Type 0 where
  LastWord : (text word : List ℕ) → NameWord word → text ≡ word ++ 10 ∷ [] → Words text
  NextWord : (text word more : List ℕ) → NameWord word → Words more → text ≡ word ++ 32 ∷ more → Words text

-- a text of names, and then a text of the set
pub record Named (Q : List ℕ → Type 0) (text : List ℕ) : Type 0 where
  pub names : List ℕ
  pub back : List ℕ
  pub names_are : Words names
  pub back_is : Q back
  pub whole : text ≡ names ++ back

abbrev pub Counted : Version → List ℕ → Type 0
Counted version = Followed NumberWord 10 (Tail version Node)

abbrev pub Stated : Version → List ℕ → Type 0
Stated version = Followed (Exactly (codes "states")) 32 (Counted version)

-- the first two lines up to the names
abbrev pub title : Version → List ℕ
title First = codes "automaton 1\nvariables "
title Second = codes "automaton 2\nvariables "

pub record Title (text : List ℕ) : Type 0 where
  pub version : Version
  pub whole : text ≡ title version

pub record Whole (text : List ℕ) : Type 0 where
  pub version : Version
  pub back : List ℕ
  pub back_is : Named (Stated version) back
  pub whole : text ≡ title version ++ back
