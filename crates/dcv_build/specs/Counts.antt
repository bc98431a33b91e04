-- What each step of a core takes: how many states and nodes its row has, over the canonical tables of the earlier steps.
--     HasAllCounts machine parts states nodes    the machine has so many states, and its rows with the parts of a proposition so many nodes
--     IsCount tables step count                  these are the counts of the step's row, beside the start of its span
--     AreCounts steps limits counts              all steps are within the limits, and these are their counts, one for each in order
use Rattle.std.specs.Prelude.{◌≡◌, ℕ, ◌+◌, List, length, Some, slice_get}
use Rattle.dcv_language.specs.declared.count.Count.{Count}
use Rattle.dcv_language.specs.Automaton.{WorkingMachine}
use Rattle.dcv_language.specs.Table.{Table}
use Rattle.dcv_core.specs.Steps.{PlainStep}
use Rattle.dcv_explore.specs.declared.explorer.Limits.{Limits}
use Rattle.dcv_explore.specs.Reached.{HasCounts}
use Rattle.dcv_build.specs.Budget.{row_at, IsDone}

pub record HasAllCounts {S : Type 0} (machine : WorkingMachine S) (parts states nodes : ℕ) : Type 0 where
  pub of_rows : ℕ
  pub counts : HasCounts machine states of_rows
  pub nodes_are : nodes ≡ parts + of_rows

pub record IsCount (tables : List Table) (step : PlainStep) (count : Count) : Type 0 where
  pub place : count.at ≡ step.span.start
  pub counts : HasAllCounts (row_at step tables).machine (row_at step tables).parts count.states count.nodes

pub record AreCounts (steps : List PlainStep) (limits : Limits) (counts : List Count) : Type 0 where
  pub tables : List Table
  pub done : IsDone steps limits tables
  pub all : length tables ≡ length steps
  pub one_each : length counts ≡ length steps
  pub each : (number : ℕ) (step : PlainStep) (count : Count) → slice_get steps number ≡ Some step → slice_get counts number ≡ Some count
      → IsCount tables step count
