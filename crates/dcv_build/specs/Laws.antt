-- The laws that `src/laws.rt` proves.
use Rattle.std.specs.Prelude.{◌≡◌, ℕ, ◌<◌, List, [], Some, slice_get, slice_index_or}
use Rattle.dcv_language.specs.declared.count.Count.{Count}
use Rattle.dcv_word.specs.Behaviour.{Word}
use Rattle.dcv_language.specs.Automaton.{accepts}
use Rattle.dcv_language.specs.Canonical.{IsCanonical}
use Rattle.dcv_language.specs.Language.{Language, HaveSameBehaviours}
use Rattle.dcv_language.specs.Table.{Table}
use Rattle.dcv_language.specs.Verdict.{Verdict, IsVerdict}
use Rattle.dcv_core.specs.Core.{CoreTree}
use Rattle.dcv_core.specs.Holds.{words_of}
use Rattle.dcv_core.specs.Steps.{PlainStep, steps_of}
use Rattle.dcv_explore.specs.declared.explorer.Limits.{Limits}
use Rattle.dcv_explore.specs.Budget.{Kind}
use Rattle.dcv_explore.specs.Verdict.{HaveSameVerdict}
use Rattle.dcv_build.specs.Budget.{row_at, IsWithinBudget, IsOver}
use Rattle.dcv_build.specs.Counts.{AreCounts}

-- one step at most is the first that is over the limits, whatever it has too many of
abbrev pub OneStepIsOver : Type 0
OneStepIsOver = (k : ℕ) (core : CoreTree) (limits : Limits) (kind other_kind : Kind) (number other : ℕ)
    → IsOver (steps_of k core) limits kind number → IsOver (steps_of k core) limits other_kind other → number ≡ other

-- and none is where all are within
abbrev pub WithinExcludesOver : Type 0
WithinExcludesOver = (k : ℕ) (core : CoreTree) (limits : Limits) (kind : Kind) (number : ℕ)
    → IsWithinBudget (steps_of k core) limits → ¬ IsOver (steps_of k core) limits kind number

-- a core has one list of counts
abbrev pub OneListOfCounts : Type 0
OneListOfCounts = (k : ℕ) (core : CoreTree) (limits : Limits) (counts others : List Count)
    → AreCounts (steps_of k core) limits counts → AreCounts (steps_of k core) limits others → counts ≡ others

-- ---- what is explored for a step

-- each step before the n-th has a table that is canonical for the step's words
abbrev pub AreCanonicalBefore : List PlainStep → ℕ → List Table → Type 0
AreCanonicalBefore steps n tables = (number : ℕ) (step : PlainStep) → number < n → slice_get steps number ≡ Some step
    → (access : List Word) × IsCanonical step.slots (words_of step.core) (slice_index_or tables number []) access

-- over such tables the machine of each step accepts, of the behaviours over the step's slots, those that are the step's words
abbrev pub MachineAcceptsStep : Type 0
MachineAcceptsStep = (k : ℕ) (core : CoreTree) (n : ℕ) (step : PlainStep) (tables : List Table)
    → slice_get (steps_of k core) n ≡ Some step → AreCanonicalBefore (steps_of k core) n tables
    → HaveSameBehaviours step.slots (accepts (row_at step tables).machine.automaton) (words_of step.core)

-- ---- what is explored for a verdict

-- sets with the same verdict have one verdict
abbrev pub VerdictOfSameVerdict : Type 0
VerdictOfSameVerdict = (k : ℕ) (L M : Language) (verdict : Verdict) → HaveSameVerdict k L M → IsVerdict k L verdict → IsVerdict k M verdict
