-- What the table rules ask of a file, in words of the automaton that it stands for and not of its text.
--     IsChild file place target       what comes next in the node at this place may be this
--     IsRow file target               what comes first in the row of a state may be this
--     IsGoodNodeLine file ..          the line at this place keeps the rules of its kind
--     AreSameNode line other          these lines say the same of two nodes
--     IsGoodStepPart part             a step part keeps the rules
--     IsGoodFile file                 a file keeps them all
use Rattle.std.specs.Prelude.{◌≡◌, ◌≢◌, ℕ, ◌<◌, ◌≤◌, Bool, List, IfSome, length, slice_index_or}
use Rattle.std.specs.List.{AllPairs}
use Rattle.dcv_language.specs.Limits.{most_states, most_nodes}
use Rattle.dcv_language.specs.declared.child.Child.{Child}
use Rattle.dcv_language.specs.declared.child.Child.TheVariants.{State, Node}
use Rattle.dcv_automaton_text.specs.File.{NodeLine, StateLine, Access, EmptyAccess, StartAccess, AfterAccess, AccessLine}
use Rattle.dcv_automaton_text.specs.File.{Suffix, EmptySuffix, ThenSuffix, SuffixLine, StepLine, StepPart, AutomatonFile}
use Rattle.dcv_automaton_text.specs.Rules.{most_steps, most_start, AreNames, slot_of, slot_of_node}

-- of the line at each place
abbrev pub AtEachPlace : {Line : Type 0} → (ℕ → Line → Type 0) → List Line → Type 0
AtEachPlace {Line} P lines = (place : ℕ) (d : Line) → place < length lines → P place (slice_index_or lines place d)

-- ---- nodes

-- an earlier node, whose variable is a later one
pub record IsEarlierNode (file : AutomatonFile) (place : ℕ) (number : ℕ) : Type 0 where
  pub earlier : number < place
  pub later_variable : slot_of_node file place < slot_of_node file number

-- a state that there is, or an earlier node
abbrev pub IsChild : AutomatonFile → ℕ → Child → Type 0
IsChild file place (State number) = number < file.states
IsChild file place (Node number) = IsEarlierNode file place number

pub record IsGoodNodeLine (file : AutomatonFile) (place : ℕ) (line : NodeLine) : Type 0 where
  pub number : line.number ≡ place
  -- its variable is one of the file's
  pub variable : slot_of file.names line.name < length file.names
  pub hi : IsChild file place line.hi
  pub lo : IsChild file place line.lo
  pub differ : line.hi ≢ line.lo

-- the same variable, and the same children
pub record AreSameNode (line other : NodeLine) : Type 0 where
  pub name : line.name ≡ other.name
  pub hi : line.hi ≡ other.hi
  pub lo : line.lo ≡ other.lo

-- ---- states

-- a state or a node that there is
abbrev pub IsRow : AutomatonFile → Child → Type 0
IsRow file (State number) = number < file.states
IsRow file (Node number) = number < length file.node_lines

pub record IsGoodStateLine (file : AutomatonFile) (place : ℕ) (line : StateLine) : Type 0 where
  pub number : line.number ≡ place
  pub row : IsRow file line.row

-- ---- access words and suffixes

-- a value for each variable
abbrev pub HasWidth : AutomatonFile → List Bool → Type 0
HasWidth file letter = length letter ≡ length file.names

-- the word of the state at this place goes on from that of this other
pub record GoesOn (file : AutomatonFile) (place : ℕ) (state : ℕ) (letter : List Bool) : Type 0 where
  pub not_start : 0 < state
  pub is_state : state < file.states
  -- the word of the start alone may go on from that of any state
  pub earlier : 0 < place → state < place
  pub width : HasWidth file letter

-- the start alone may have the empty word
abbrev pub IsHowAccess : AutomatonFile → ℕ → Access → Type 0
IsHowAccess file place EmptyAccess = place ≡ 0
IsHowAccess file place (StartAccess letter) = HasWidth file letter
IsHowAccess file place (AfterAccess state letter) = GoesOn file place state letter

pub record IsGoodAccessLine (file : AutomatonFile) (place : ℕ) (line : AccessLine) : Type 0 where
  pub number : line.number ≡ place
  pub how : IsHowAccess file place line.access

-- a letter, and then an earlier suffix
pub record GoesOnWith (file : AutomatonFile) (place : ℕ) (letter : List Bool) (suffix : ℕ) : Type 0 where
  pub width : HasWidth file letter
  pub earlier : suffix < place

-- the first suffix is empty, and no other: after a letter stands an earlier one
abbrev pub IsHowSuffix : AutomatonFile → ℕ → Suffix → Type 0
IsHowSuffix file place EmptySuffix = place ≡ 0
IsHowSuffix file place (ThenSuffix letter suffix) = GoesOnWith file place letter suffix

pub record IsGoodSuffixLine (file : AutomatonFile) (place : ℕ) (line : SuffixLine) : Type 0 where
  pub number : line.number ≡ place
  pub how : IsHowSuffix file place line.suffix

-- ---- steps

pub record IsGoodStepLine (place : ℕ) (line : StepLine) : Type 0 where
  pub number : line.number ≡ place
  pub at : line.at ≤ most_start
  -- there is a start
  pub some : 0 < line.states
  pub states : line.states ≤ most_states
  pub nodes : line.nodes ≤ most_nodes

pub record IsGoodStepPart (part : StepPart) : Type 0 where
  pub few : part.count ≤ most_steps
  pub count : length part.lines ≡ part.count
  pub lines : AtEachPlace IsGoodStepLine part.lines

-- ---- the file

pub record IsGoodFile (file : AutomatonFile) : Type 0 where
  pub names : AreNames file.names
  -- there is a start
  pub some : 0 < file.states
  pub states : file.states ≤ most_states
  pub nodes : length file.node_lines ≤ most_nodes
  pub node_lines : AtEachPlace (IsGoodNodeLine file) file.node_lines
  -- no node stands twice
  pub nodes_differ : AllPairs (λ (line other : NodeLine). ¬ AreSameNode line other) file.node_lines
  -- each state has a line
  pub all_states : length file.state_lines ≡ file.states
  pub state_lines : AtEachPlace (IsGoodStateLine file) file.state_lines
  -- and an access word
  pub all_access : length file.access_lines ≡ file.states
  pub access_lines : AtEachPlace (IsGoodAccessLine file) file.access_lines
  pub suffix_lines : AtEachPlace (IsGoodSuffixLine file) file.suffix_lines
  pub steps : IfSome file.steps IsGoodStepPart
