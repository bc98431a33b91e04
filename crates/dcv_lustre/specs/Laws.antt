-- The laws that `src/laws.rt` proves.
use Rattle.std.specs.Prelude.{◌≡◌, ◌↔◌, ℕ, IsTrue, List, ◌++◌, ◌⊎◌, length, take}
use Rattle.std.specs.List.{All}
use Rattle.dcv_word.specs.Behaviour.{Word, IsBehaviour}
use Rattle.dcv_language.specs.Language.{Language}
use Rattle.dcv_language.specs.Table.{table_accepts}
use Rattle.dcv_automaton_text.specs.File.{AutomatonFile, AccessLine, SuffixLine}
use Rattle.dcv_automaton_text.specs.Meaning.{table_of}
use Rattle.dcv_automaton_text.specs.Rules.{IsGood}
use Rattle.dcv_automaton_file.specs.File.{file_of}
use Rattle.dcv_automaton_file.specs.Laws.{HasFile}
use Rattle.dcv_dfa.specs.Raw.{RawValue, raw_accepts}
use Rattle.dcv_lustre.specs.Tree.{Node}
use Rattle.dcv_lustre.specs.Meaning.{Valuation, IsTrace, width_of, Accepts}
use Rattle.dcv_lustre.specs.Observer.{observer_of}
use Rattle.dcv_lustre.specs.Rules.{IsWellNamed}
use Rattle.dcv_lustre.specs.Placed.{PlacedNode, node_of}
use Rattle.dcv_lustre.specs.Actions.{Spells}
use Rattle.dcv_lustre.specs.Form.{IsSpellable}
use Rattle.dcv_lustre.specs.Words.{AreWords}
use Rattle.dcv_lustre.specs.Faults.{HasFault, IsReadAs}
use Rattle.dcv_observer.specs.declared.fault.ObsFault.{ObsFault}
use Rattle.dcv_lustre.specs.Layout.{text_of}

abbrev pub HasWidths : Node → Word → Type 0
HasWidths node word = All (λ letter. length letter ≡ width_of node) word

-- a node that keeps the rules of names has a trace over each word
abbrev pub TraceExists : Type 0
TraceExists = (node : Node) → IsWellNamed node → (word : Word) → HasWidths node word → (trace : List Valuation) × IsTrace node word trace

-- and one at most
abbrev pub TraceIsOne : Type 0
TraceIsOne = (node : Node) → IsWellNamed node → (word : Word) (trace other : List Valuation) → IsTrace node word trace → IsTrace node word other → trace ≡ other

-- the trace over the beginning of a word is the beginning of the trace
abbrev pub TraceOfBeginning : Type 0
TraceOfBeginning = (node : Node) (word more : Word) (trace : List Valuation) → IsTrace node (word ++ more) trace → IsTrace node word (take (length word) trace)

-- ---- observers

-- a node is an observer of a language over so many variables
pub record Observes (k : ℕ) (node : Node) (L : Language) : Type 0 where
  pub well_named : IsWellNamed node
  pub spellable : IsSpellable node
  pub width : width_of node ≡ k
  -- of the behaviours it accepts exactly those of the language
  pub accepts : (word : Word) → IsBehaviour k word → Accepts node word ↔ IsTrue (L word)

-- that of a file which keeps the table rules observes what the file's table accepts
abbrev pub ObserverOfFile : Type 0
ObserverOfFile = (file : AutomatonFile) → IsGood file → Observes (length file.names) (observer_of file) (table_accepts (table_of file))

-- that of an automaton's file observes what the automaton accepts
abbrev pub ObserverOfAutomaton : Type 0
ObserverOfAutomaton = (raw : RawValue) (names : List (List ℕ)) (access : List AccessLine) (suffixes : List SuffixLine)
    → HasFile raw names → Observes raw.arena.slots (observer_of (file_of raw names access suffixes)) (raw_accepts raw)

-- ---- texts

-- the text of a node spells it
abbrev pub TextSpellsNode : Type 0
TextSpellsNode = (node : Node) → IsSpellable node → (placed : PlacedNode) × Spells (text_of node) placed × (node_of placed ≡ node)

-- so it is read back as the node
abbrev pub TextIsReadBack : Type 0
TextIsReadBack = (node : Node) → IsSpellable node → IsWellNamed node → IsReadAs (text_of node) node

-- a text spells one node at most
abbrev pub SpellsOne : Type 0
SpellsOne = (text : List ℕ) (placed other : PlacedNode) → Spells text placed → Spells text other → placed ≡ other

-- and its words are what the grammar asks
abbrev pub SpelledWords : Type 0
SpelledWords = (text : List ℕ) (placed : PlacedNode) → Spells text placed → AreWords placed

-- ---- faults

-- a text has one fault at most
abbrev pub OneFault : Type 0
OneFault = (text : List ℕ) (fault other : ObsFault) → HasFault text fault → HasFault text other → fault ≡ other

-- each text has a fault or is read as a node
abbrev pub SomeReading : Type 0
SomeReading = (text : List ℕ) → ((fault : ObsFault) × HasFault text fault) ⊎ ((node : Node) × IsReadAs text node)

-- and not both
abbrev pub NoFaultWhereRead : Type 0
NoFaultWhereRead = (text : List ℕ) (node : Node) (fault : ObsFault) → IsReadAs text node → HasFault text fault → ⊥
