-- The laws that `src/laws.rt` proves.
use Rattle.std.specs.Prelude.{◌≡◌, ℕ, Some, slice_get, map}
use Rattle.dcv_syntax.specs.declared.names.Span.{Span}
use Rattle.dcv_core.specs.Core.{PlainBasic, CoreTree, CoreAtom}
use Rattle.dcv_core.specs.Holds.{words_of}
use Rattle.dcv_core.specs.Steps.{PlainCore, PlainStep, OpAtom, steps_of, without_core}
use Rattle.dcv_core.specs.StepWords.{basic_words}
use Rattle.dcv_language.specs.Automaton.{accepts}
use Rattle.dcv_language.specs.Language.{HaveSameBehaviours}
use Rattle.dcv_language.specs.MachineLaws.{AcceptsWordsOf}
use Rattle.dcv_atoms.specs.AtomRows.{atom_machine}
use Rattle.dcv_atoms.specs.Steps.{IsAtom}
use Rattle.dcv_atoms.specs.declared.states.AtomMacro.{AtomMacro}

-- a form's machine accepts the words of the form's set
abbrev pub MachineAcceptsForm : Type 0
MachineAcceptsForm = (slots : ℕ) (basic : PlainBasic) → AcceptsWordsOf (atom_machine slots basic).automaton (basic_words basic)

-- and so the words of each core that is this form
abbrev pub MachineAcceptsAtom : Type 0
MachineAcceptsAtom = (slots : ℕ) (basic : PlainBasic) (span : Span) → AcceptsWordsOf (atom_machine slots basic).automaton (words_of (CoreAtom basic span))

-- and, of the behaviours over its slots, those of each step that is an atom
abbrev pub MachineAcceptsStep : Type 0
MachineAcceptsStep = (k : ℕ) (core : CoreTree) (n : ℕ) (step : PlainStep) (basic : PlainBasic)
    → slice_get (steps_of k core) n ≡ Some step → step.op ≡ OpAtom basic
    → HaveSameBehaviours step.slots (accepts (atom_machine step.slots basic).automaton) (words_of step.core)

-- which is an atom of each value with the core's steps
abbrev pub StepIsAtom : Type 0
StepIsAtom = (made : PlainCore) (k : ℕ) (core : CoreTree) (n : ℕ) (step : PlainStep) (basic : PlainBasic)
    → made.steps ≡ map without_core (steps_of k core) → slice_get (steps_of k core) n ≡ Some step → step.op ≡ OpAtom basic
    → IsAtom made n basic step.slots

-- what a state of a form's machine is kept as finds the state again, so the explored states are as many as the machine's
abbrev pub FindsAgain : {State : Type 0} → (State → AtomMacro) → (AtomMacro → State) → Type 0
FindsAgain {State} kept found = (state : State) → found (kept state) ≡ state
