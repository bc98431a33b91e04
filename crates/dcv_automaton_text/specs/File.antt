-- The text of an automaton as plain data: what its lines say, in order. Here numbers may be any and stand in any order, and there may be
-- any number of lines of each kind; the table rules judge them.
--     NodeLine         a node: its number, its variable's name, and what comes next where that is true and where it is false
--     StateLine        a state: its number, whether it accepts, and its row
--     AccessLine       how the access word of a state is spelled
--     SuffixLine       how a suffix is spelled
--     StepLine         what a step of the requirement took: its number, where it stands in the source, and how many states and nodes
--     StepPart         how many steps there are, and the line of each
--     AutomatonFile    the variables, the number of states, the lines of each kind, and the step part, if there is one
use Rattle.std.specs.Prelude.{ℕ, Bool, List, Option}
use Rattle.dcv_language.specs.declared.child.Child.{Child}

pub record NodeLine : Type 0 where
  pub number : ℕ
  pub name : List ℕ
  -- where the variable is true
  pub hi : Child
  -- where it is false
  pub lo : Child

pub record StateLine : Type 0 where
  pub number : ℕ
  pub accepting : Bool
  pub row : Child

-- the empty word, a word of one letter, or the access word of a state and a letter more
pub data Access : Type 0 where
  EmptyAccess : Access
  StartAccess : (letter : List Bool) → Access
  AfterAccess : (state : ℕ) → (letter : List Bool) → Access

pub record AccessLine : Type 0 where
  pub number : ℕ
  pub access : Access

-- the empty word, or a letter and then another suffix
pub data Suffix : Type 0 where
  EmptySuffix : Suffix
  ThenSuffix : (letter : List Bool) → (suffix : ℕ) → Suffix

pub record SuffixLine : Type 0 where
  pub number : ℕ
  pub suffix : Suffix

pub record StepLine : Type 0 where
  pub number : ℕ
  -- the byte of the source at which the step's span starts
  pub at : ℕ
  pub states : ℕ
  pub nodes : ℕ

pub record StepPart : Type 0 where
  pub count : ℕ
  pub lines : List StepLine

pub record AutomatonFile : Type 0 where
  -- of the variables, in order
  pub names : List (List ℕ)
  pub states : ℕ
  pub node_lines : List NodeLine
  pub state_lines : List StateLine
  pub access_lines : List AccessLine
  pub suffix_lines : List SuffixLine
  -- a text of version 1 has none
  pub steps : Option StepPart
