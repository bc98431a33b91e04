-- The form of the text of an automaton, by which alone a syntax fault is judged.
--     IsSpellable file          its words are words of the form: numbers of at most seven digits, and names of visible bytes
--     HasForm text file         the text has the form, and this is its file
--     IsViable text             the text is the beginning of one that has the form, or a whole one
--     IsSyntaxFault text at     the text is viable up to this byte, and no further
use Rattle.std.specs.Prelude.{◌≡◌, ◌≢◌, ℕ, ◌+◌, ◌^◌, ◌<◌, Bool, false, ◌&&◌, nat_le, List, [], ◌∷◌, ◌++◌, ◌⊎◌, length, take, codes, IsTrue, IfSome}
use Rattle.std.specs.List.{All, list_all}
use Rattle.dcv_language.specs.declared.child.Child.{Child}
use Rattle.dcv_language.specs.declared.child.Child.TheVariants.{State, Node}
use Rattle.dcv_automaton_text.specs.File.{NodeLine, StateLine, Access, EmptyAccess, StartAccess, AfterAccess, AccessLine}
use Rattle.dcv_automaton_text.specs.File.{Suffix, EmptySuffix, ThenSuffix, SuffixLine, StepLine, StepPart, AutomatonFile}
use Rattle.dcv_automaton_text.specs.Spelled.{spelled}

-- at most seven digits
abbrev pub IsNumber : ℕ → Type 0
IsNumber number = number < 10 ^ 7

abbrev pub is_visible : ℕ → Bool
is_visible b = nat_le 33 b && nat_le b 126

-- one visible byte or more
abbrev pub is_name_word : List ℕ → Bool
is_name_word [] = false
is_name_word (b ∷ bytes) = list_all is_visible (b ∷ bytes)

abbrev pub IsNameWord : List ℕ → Type 0
IsNameWord name = IsTrue (is_name_word name)

abbrev pub IsTarget : Child → Type 0
IsTarget (State number) = IsNumber number
IsTarget (Node number) = IsNumber number

pub record IsNodeLine (line : NodeLine) : Type 0 where
  pub number : IsNumber line.number
  pub name : IsNameWord line.name
  pub hi : IsTarget line.hi
  pub lo : IsTarget line.lo

pub record IsStateLine (line : StateLine) : Type 0 where
  pub number : IsNumber line.number
  pub row : IsTarget line.row

abbrev pub IsAccess : Access → Type 0
IsAccess EmptyAccess = Unit {0}
IsAccess (StartAccess letter) = Unit {0}
IsAccess (AfterAccess state letter) = IsNumber state

pub record IsAccessLine (line : AccessLine) : Type 0 where
  pub number : IsNumber line.number
  pub access : IsAccess line.access

abbrev pub IsSuffix : Suffix → Type 0
IsSuffix EmptySuffix = Unit {0}
IsSuffix (ThenSuffix letter suffix) = IsNumber suffix

pub record IsSuffixLine (line : SuffixLine) : Type 0 where
  pub number : IsNumber line.number
  pub suffix : IsSuffix line.suffix

pub record IsStepLine (line : StepLine) : Type 0 where
  pub number : IsNumber line.number
  pub at : IsNumber line.at
  pub states : IsNumber line.states
  pub nodes : IsNumber line.nodes

pub record IsStepPart (part : StepPart) : Type 0 where
  pub count : IsNumber part.count
  pub lines : All IsStepLine part.lines

pub record IsSpellable (file : AutomatonFile) : Type 0 where
  pub names : All IsNameWord file.names
  -- a dash alone says that there are no variables
  pub not_a_dash : file.names ≢ codes "-" ∷ []
  pub states : IsNumber file.states
  pub node_lines : All IsNodeLine file.node_lines
  pub state_lines : All IsStateLine file.state_lines
  pub access_lines : All IsAccessLine file.access_lines
  pub suffix_lines : All IsSuffixLine file.suffix_lines
  pub steps : IfSome file.steps IsStepPart

pub record HasForm (text : List ℕ) (file : AutomatonFile) : Type 0 where
  pub spellable : IsSpellable file
  pub spelled : text ≡ spelled file

pub record IsViable (text : List ℕ) : Type 0 where
  pub more : List ℕ
  pub file : AutomatonFile
  pub form : HasForm (text ++ more) file

-- either not with the byte there, or the text ends there and has not the form
pub record IsSyntaxFault (text : List ℕ) (at : ℕ) : Type 0 where
  pub viable : IsViable (take at text)
  pub fault : ((at < length text) × ¬ IsViable (take (at + 1) text)) ⊎ ((at ≡ length text) × ((file : AutomatonFile) → ¬ HasForm text file))
