-- The budget of a core: its steps are built in order, each over the canonical tables of the earlier ones, and each must stay within
-- the limits.
--     IsDone steps limits tables          the first steps have these canonical tables, and their rows are within the limits
--     IsWithinBudget steps limits         so it is with all of them
--     IsOver steps limits kind number     so it is with all steps before this one, and it has too many of this kind
--     IsFaultOver steps limits fault      this is the first of these steps that is over the limits
--     IsAutomatonOf k L auto              the canonical automaton of a set over k variables
--     accepted_by raw complemented        the words that an automaton accepts, or all others
--     HasVerdictOfSet k L raw complemented    they have the verdict of the set over k variables
--     Builds core limits IsOf states nodes result    what a build gives
use Rattle.std.specs.Prelude.{◌≡◌, ℕ, ◌≤◌, Bool, if◌then◌else◌, List, length, Some, slice_get, Result, IfOk, IfErr, OnOk, ⊤}
use Rattle.dcv_word.specs.Behaviour.{Word}
use Rattle.dcv_language.specs.Table.{Table}
use Rattle.dcv_language.specs.Canonical.{IsCanonical}
use Rattle.dcv_language.specs.Language.{Language, outside}
use Rattle.dcv_core.specs.Core.{CoreTree}
use Rattle.dcv_core.specs.Holds.{words_of}
use Rattle.dcv_core.specs.Steps.{PlainStep, PlainCore, IsCoreOf, steps_of}
use Rattle.dcv_dfa.specs.Raw.{RawValue, raw_accepts}
use Rattle.dcv_dfa.specs.Auto.{table_of_states}
use Rattle.dcv_explore.specs.declared.explorer.Limits.{Limits}
use Rattle.dcv_explore.specs.Budget.{Row, IsWithin, Kind, TooManyStates, TooManyNodes, Exceeds}
use Rattle.dcv_explore.specs.Verdict.{HaveSameVerdict}
use Rattle.dcv_build.specs.Rows.{row_of}
use Rattle.dcv_build.specs.declared.faults.BuildFault.{BuildFault}
use Rattle.dcv_build.specs.declared.faults.BuildFault.TheVariants.{States, Nodes, Memory}

-- the row of a step, where there is a table for each earlier step
abbrev pub row_at : PlainStep → List Table → Row
row_at step tables = row_of step.op step.slots tables

-- the table is canonical for the words of the step, and its row was within the limits
pub record IsStepDone (limits : Limits) (tables : List Table) (step : PlainStep) (table : Table) : Type 0 where
  pub access : List Word
  pub canonical : IsCanonical step.slots (words_of step.core) table access
  pub within : IsWithin (row_at step tables) limits

pub record IsDone (steps : List PlainStep) (limits : Limits) (tables : List Table) : Type 0 where
  pub no_more : length tables ≤ length steps
  pub each : (number : ℕ) (step : PlainStep) (table : Table) → slice_get steps number ≡ Some step → slice_get tables number ≡ Some table
      → IsStepDone limits tables step table

pub record IsWithinBudget (steps : List PlainStep) (limits : Limits) : Type 0 where
  pub tables : List Table
  pub done : IsDone steps limits tables
  pub all : length tables ≡ length steps

pub record IsOver (steps : List PlainStep) (limits : Limits) (kind : Kind) (number : ℕ) : Type 0 where
  pub tables : List Table
  pub done : IsDone steps limits tables
  pub before : length tables ≡ number
  pub step : PlainStep
  pub is_there : slice_get steps number ≡ Some step
  pub exceeds : Exceeds kind (row_at step tables) limits

abbrev pub IsFaultOver : List PlainStep → Limits → BuildFault → Type 0
IsFaultOver steps limits (States step limit) = (limit ≡ limits.states) × IsOver steps limits TooManyStates step
IsFaultOver steps limits (Nodes step limit) = (limit ≡ limits.nodes) × IsOver steps limits TooManyNodes step
IsFaultOver steps limits Memory = ⊤

-- ---- what is built

pub record IsAutomatonOf (k : ℕ) (L : Language) (auto : RawValue) : Type 0 where
  pub slots : auto.arena.slots ≡ k
  pub access : List Word
  pub canonical : IsCanonical k L (table_of_states auto) access

-- ---- what is built for a verdict

-- the words that an automaton accepts, or all others
abbrev pub accepted_by : RawValue → Bool → Language
accepted_by raw complemented = if complemented then outside (raw_accepts raw) else raw_accepts raw

pub record HasVerdictOfSet (k : ℕ) (L : Language) (raw : RawValue) (complemented : Bool) : Type 0 where
  pub slots : raw.arena.slots ≡ k
  pub verdict : HaveSameVerdict k (accepted_by raw complemented) L

-- ---- what a build gives

-- what is built is of the core's words, and within the limits itself, by its numbers of states and nodes
pub record Builds {T : Type 0} (core : PlainCore) (limits : Limits) (IsOf : Language → T → Type 0) (states nodes : T → ℕ) (result : Result T BuildFault) : Type 0 where
  pub is : (tree : CoreTree) → IsCoreOf tree core → IfOk result (IsOf (words_of tree))
  pub few_states : IfOk result (λ built. states built ≤ limits.states)
  pub few_nodes : IfOk result (λ built. nodes built ≤ limits.nodes)
  -- It comes only where each step is within the limits, and a fault names the first step that is not.
  pub within : (tree : CoreTree) → IsCoreOf tree core → OnOk result (IsWithinBudget (steps_of core.declared tree) limits)
  pub over : (tree : CoreTree) → IsCoreOf tree core → IfErr result (IsFaultOver (steps_of core.declared tree) limits)
