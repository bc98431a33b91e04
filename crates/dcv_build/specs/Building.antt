-- For the proofs alone: what waits while the steps of a core are built one after another.
--     IsNewest, AreWaiting              the tables that wait before a step, the newest first: each is that of a step, and where its own
--                                       steps begin, those of the next end
--     HasBuilt steps limits n           the steps before step n are built, these tables wait, and these are the counts
--     IsCountOf                         the count of a step that took so many states and nodes
--     IsNext                            with this table and these counts a step is built
--     GoesTo steps limits IsGiven       what a call answers that builds a step: what is so, or the first step that is over
--     Goes, Makes                       the same, where the table stands on the shelf, and where it is that of what is explored, once minimised
--     ForTree core P                    so it is, whatever tree the core has the steps of
--     IsBuilding core n building        so it is with what waits as numbers on the shelf
--     IsGoal core limits n auto counts  so it is with this automaton, on no shelf, as the newest
--     IsExploredGoal core limits n raw counts   so it is with the canonical automaton of this one
--     IsVerdictGoal core limits n raw complemented    so it is with some automaton, whose verdict is that of what this one accepts, or of all else
--     DecidesStep core limits n result  what a call answers that builds the steps up to this one for a verdict
use Rattle.std.specs.Prelude.{◌≡◌, ℕ, ◌+◌, ◌≤◌, suc, Bool, false, List, [], ◌∷◌, ◌++◌, length, reverse, Some, slice_get, Result, IfOk, IfErr}
use Rattle.dcv_language.specs.declared.count.Count.{Count}
use Rattle.dcv_language.specs.Table.{Table}
use Rattle.dcv_core.specs.Core.{CoreTree}
use Rattle.dcv_core.specs.Steps.{PlainStep, PlainCore, steps_before, steps_of}
use Rattle.dcv_dfa.specs.Auto.{IsAuto}
use Rattle.dcv_dfa.specs.Raw.{RawValue, IsRaw, raw_accepts}
use Rattle.dcv_explore.specs.declared.explorer.Limits.{Limits}
use Rattle.dcv_explore.specs.Verdict.{HaveSameVerdict}
use Rattle.dcv_shelf.specs.Shelf.{ShelfTable, table_of_auto}
use Rattle.dcv_build.specs.declared.asked.Answer.{Answer}
use Rattle.dcv_build.specs.declared.building.Building.{Building}
use Rattle.dcv_build.specs.declared.faults.BuildFault.{BuildFault}
use Rattle.dcv_build.specs.declared.settling.Explored.{Explored}
use Rattle.dcv_build.specs.Asked.{at_number, tables_at, AreThere}
use Rattle.dcv_build.specs.Budget.{IsDone, IsFaultOver, accepted_by}
use Rattle.dcv_build.specs.Counts.{IsCount}
use Rattle.dcv_build.specs.Given.{IsCoreOf}
use Rattle.dcv_build.specs.Settled.{IsOwn, IsLeastOf}

-- the newest table that waits before step n is that of the step just before, whose own steps begin with this one
pub record IsNewest (steps : List PlainStep) (limits : Limits) (tables : List Table) (n : ℕ) (one : ShelfTable) (begin : ℕ) : Type 0 where
  pub number : ℕ
  pub step : PlainStep
  pub last : suc number ≡ n
  pub is_there : slice_get steps number ≡ Some step
  pub begins : begin + steps_before step.core ≡ number
  pub table : slice_get tables number ≡ Some one.table
  pub slots : one.slots ≡ step.slots
  pub own : IsOwn limits one

abbrev pub AreWaiting : List PlainStep → Limits → List Table → ℕ → List ShelfTable → Type 0
AreWaiting steps limits tables n [] = n ≡ 0
AreWaiting steps limits tables n (one ∷ others) = (begin : ℕ) × IsNewest steps limits tables n one begin × AreWaiting steps limits tables begin others

-- (the list has the newest last)
pub record HasBuilt (steps : List PlainStep) (limits : Limits) (n : ℕ) (waiting : List ShelfTable) (counts : List Count) : Type 0 where
  pub tables : List Table
  pub count : length tables ≡ n
  pub done : IsDone steps limits tables
  pub waits : AreWaiting steps limits tables n (reverse waiting)
  pub one_each : length counts ≡ n
  pub each : (number : ℕ) (step : PlainStep) (count : Count) → slice_get steps number ≡ Some step → slice_get counts number ≡ Some count
      → IsCount tables step count

pub record IsCountOf (steps : List PlainStep) (n states nodes : ℕ) (count : Count) : Type 0 where
  pub place : (step : PlainStep) → slice_get steps n ≡ Some step → count.at ≡ step.span.start
  pub states_are : count.states ≡ states
  pub nodes_are : count.nodes ≡ nodes

-- with this table the step is built
abbrev pub IsNext : List PlainStep → Limits → ℕ → List ShelfTable → List Count → ShelfTable → ℕ → ℕ → Type 0
IsNext steps limits n waiting counts one states nodes = (count : Count) → IsCountOf steps n states nodes count
    → HasBuilt steps limits (n + 1) (waiting ++ one ∷ []) (counts ++ count ∷ [])

abbrev pub GoesWith : List PlainStep → Limits → ℕ → List ShelfTable → List Count → List ShelfTable → Answer → Type 0
GoesWith steps limits n waiting counts shelf answer = IsNext steps limits n waiting counts (at_number shelf answer.number) answer.states answer.nodes

-- with the table of the canonical automaton of what is explored the step is built
abbrev pub MakesNext : List PlainStep → Limits → ℕ → List ShelfTable → List Count → Explored → Type 0
MakesNext steps limits n waiting counts explored = (auto : RawValue) → IsLeastOf explored.raw auto
    → IsNext steps limits n waiting counts (table_of_auto auto) explored.states explored.nodes

pub record GoesTo {X : Type 0} (steps : List PlainStep) (limits : Limits) (IsGiven : X → Type 0) (result : Result X BuildFault) : Type 0 where
  pub built : IfOk result IsGiven
  pub over : IfErr result (IsFaultOver steps limits)

abbrev pub Goes : List PlainStep → Limits → ℕ → List ShelfTable → List Count → List ShelfTable → Result Answer BuildFault → Type 0
Goes steps limits n waiting counts shelf result = GoesTo steps limits (GoesWith steps limits n waiting counts shelf) result

abbrev pub Makes : List PlainStep → Limits → ℕ → List ShelfTable → List Count → Result Explored BuildFault → Type 0
Makes steps limits n waiting counts result = GoesTo steps limits (MakesNext steps limits n waiting counts) result

abbrev pub ForTree : PlainCore → (List PlainStep → Type 0) → Type 0
ForTree core P = (tree : CoreTree) → IsCoreOf tree core → P (steps_of core.declared tree)

pub record IsBuilding (core : PlainCore) (n : ℕ) (building : Building) : Type 0 where
  pub there : AreThere building.known.tables building.waiting.items
  pub built : ForTree core (λ steps. HasBuilt steps building.known.limits n (tables_at building.known.tables building.waiting.items) building.counts.items)

pub record IsGoal (core : PlainCore) (limits : Limits) (n : ℕ) (auto : RawValue) (counts : List Count) : Type 0 where
  pub rest : List ShelfTable
  pub built : ForTree core (λ steps. HasBuilt steps limits n (rest ++ table_of_auto auto ∷ []) counts)

abbrev pub IsExploredGoal : PlainCore → Limits → ℕ → RawValue → List Count → Type 0
IsExploredGoal core limits n raw counts = (auto : RawValue) → IsLeastOf raw auto → IsGoal core limits n auto counts

pub record IsVerdictGoal (core : PlainCore) (limits : Limits) (n : ℕ) (raw : RawValue) (complemented : Bool) : Type 0 where
  pub auto : RawValue
  pub raw_is : IsRaw auto
  pub auto_is : IsAuto auto
  pub slots : raw.arena.slots ≡ auto.arena.slots
  pub verdict : HaveSameVerdict auto.arena.slots (accepted_by raw complemented) (raw_accepts auto)
  pub counts : List Count
  pub goal : IsGoal core limits n auto counts
  pub states : length raw.rows ≤ limits.states
  pub nodes : length raw.arena.nodes ≤ limits.nodes

pub record DecidesStep (core : PlainCore) (limits : Limits) (n : ℕ) (result : Result Explored BuildFault) : Type 0 where
  pub goal : IfOk result (λ explored. IsVerdictGoal core limits (n + 1) explored.raw false)
  pub over : ForTree core (λ steps. IfErr result (IsFaultOver steps limits))

-- ---- counts

-- the count of a step has come
pub record IsNoted (core : PlainCore) (n states nodes : ℕ) (old new : List Count) : Type 0 where
  pub count : Count
  pub added : new ≡ old ++ count ∷ []
  pub is : ForTree core (λ steps. IsCountOf steps n states nodes count)
