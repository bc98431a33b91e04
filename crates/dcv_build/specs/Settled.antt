-- For the proofs alone: what the exploration of one machine gives within the limits.
--     IsOwn limits one                  what the table of a machine that was explored has of its own: it is an automaton's, and within the limits
--     IsBuilt                           the canonical table of a machine that is within the limits, with its exact counts
--     IsExploredWithin                  the automaton of a machine that is within the limits, where the parts of a proposition leave it less room
--     HasExplored                       that automaton beside its exact counts
--     IsLeastOf raw auto                the canonical automaton of what a raw one accepts
--     IsLeastMade explored made         that of what was explored, beside the same counts
--     HasExploredVerdict                an automaton with the verdict of a machine, as large as the limits allow at most
--     IsDeciding                        the same of a machine that is within the limits itself: there is a canonical automaton of what it accepts
--     IsServing                         such a one that also accepts all that the machine does, beside the machine's counts
--     IsPassed machine parts limits step fault   the fault is at this step, whose machine passes the limit
--     SettlesTo IsGiven                 what a call answers that explores a machine for a step: what is so, or that the machine is over a limit
--     Settles, Serves, Decides          the same, where it gives what was explored, any automaton that serves, and any that decides
--     ExploresUpTo, SettlesUpTo extent  what the explorer and such a call answer that explore all, or as far as the verdict needs
--     IsFor                             a number on a shelf is that of a machine's table, and the counts beside it are the machine's
--     Answers                           what a call answers that finds a number for a step
--     fault_at step limits fault        the fault of a step whose exploration has this fault
use Rattle.std.specs.Prelude.{◌≡◌, ℕ, ◌+◌, ◌-◌, ◌^◌, ◌<◌, ◌≤◌, List, length, Some, slice_get, Result, IfOk, IfErr, ⊤}
use Rattle.dcv_word.specs.Behaviour.{Word}
use Rattle.dcv_language.specs.Automaton.{WorkingMachine, accepts}
use Rattle.dcv_language.specs.Canonical.{IsCanonical}
use Rattle.dcv_language.specs.Language.{HaveSameBehaviours}
use Rattle.dcv_dfa.specs.Raw.{RawValue, IsRaw, raw_accepts}
use Rattle.dcv_dfa.specs.Auto.{IsAuto, count_of_nodes}
use Rattle.dcv_minimise.specs.Minimal.{IsMinimalOf}
use Rattle.dcv_explore.specs.declared.explorer.Limits.{Limits}
use Rattle.dcv_explore.specs.declared.faults.ExploreFault.{ExploreFault}
use Rattle.dcv_explore.specs.declared.faults.ExploreFault.TheVariants.{States as TooMany, Nodes as TooLarge, Memory as NoMemory}
use Rattle.dcv_explore.specs.Budget.{TooManyStates, TooManyNodes, Passes}
use Rattle.dcv_explore.specs.Explored.{IsExplored, Explores}
use Rattle.dcv_explore.specs.Reached.{HasCounts}
use Rattle.dcv_explore.specs.Verdict.{HaveSameVerdict, HasVerdictOf, ExploresToVerdict}
use Rattle.dcv_shelf.specs.Shelf.{ShelfTable, table_of_auto}
use Rattle.dcv_build.specs.Counts.{HasAllCounts}
use Rattle.dcv_build.specs.declared.asked.Answer.{Answer}
use Rattle.dcv_build.specs.declared.faults.BuildFault.{BuildFault}
use Rattle.dcv_build.specs.declared.faults.BuildFault.TheVariants.{States, Nodes, Memory}
use Rattle.dcv_build.specs.declared.settling.Explored.{Explored}
use Rattle.dcv_build.specs.declared.settling.Extent.{Extent}
use Rattle.dcv_build.specs.declared.settling.Extent.TheVariants.{Whole, Verdict}
use Rattle.dcv_build.specs.declared.settling.Made.{Made}

pub record IsOwn (limits : Limits) (one : ShelfTable) : Type 0 where
  pub auto : RawValue
  pub raw : IsRaw auto
  pub auto_is : IsAuto auto
  pub table : table_of_auto auto ≡ one
  pub states : length auto.rows ≤ limits.states
  pub nodes : count_of_nodes auto ≤ limits.nodes

pub record IsBuilt {S : Type 0} (machine : WorkingMachine S) (parts : ℕ) (limits : Limits) (one : ShelfTable) (states nodes : ℕ) : Type 0 where
  pub counts : HasAllCounts machine parts states nodes
  pub states_within : states ≤ limits.states
  pub nodes_within : nodes ≤ limits.nodes
  pub slots : one.slots ≡ machine.slots
  pub access : List Word
  pub canonical : IsCanonical machine.slots (accepts machine.automaton) one.table access
  pub own : IsOwn limits one

-- the canonical automaton of what a raw one accepts
pub record IsLeastOf (raw auto : RawValue) : Type 0 where
  pub minimal : IsMinimalOf raw auto
  pub raw_is : IsRaw auto
  pub auto_is : IsAuto auto

-- it stands for what was explored, and the counts are the same
pub record IsLeastMade (explored : Explored) (made : Made) : Type 0 where
  pub least : IsLeastOf explored.raw made.auto
  pub states_are : made.states ≡ explored.states
  pub nodes_are : made.nodes ≡ explored.nodes

-- what the explorer gives where the parts of a proposition leave it less room
pub record IsExploredWithin {S : Type 0} (machine : WorkingMachine S) (parts : ℕ) (limits : Limits) (found : RawValue) : Type 0 where
  pub few : parts ≤ limits.nodes
  pub raw : IsRaw found
  pub explored : IsExplored machine found
  pub alike : HaveSameBehaviours machine.slots (raw_accepts found) (accepts machine.automaton)
  pub counts : HasCounts machine (length found.rows) (length found.arena.nodes)
  pub states : length found.rows ≤ limits.states
  pub nodes : length found.arena.nodes ≤ limits.nodes - parts

pub record HasExplored {S : Type 0} (machine : WorkingMachine S) (parts : ℕ) (limits : Limits) (explored : Explored) : Type 0 where
  pub within : IsExploredWithin machine parts limits explored.raw
  pub states_are : explored.states ≡ length explored.raw.rows
  pub nodes_are : explored.nodes ≡ parts + length explored.raw.arena.nodes

pub record HasExploredVerdict {S : Type 0} (machine : WorkingMachine S) (limits : Limits) (explored : Explored) : Type 0 where
  pub raw : IsRaw explored.raw
  pub of_machine : HasVerdictOf machine explored.raw
  pub states : length explored.raw.rows ≤ limits.states
  pub nodes : length explored.raw.arena.nodes ≤ limits.nodes
  -- the limits are numbers of the program
  pub most_states : limits.states < 2 ^ 32
  pub most_nodes : limits.nodes < 2 ^ 32

pub record IsDeciding {S : Type 0} (machine : WorkingMachine S) (parts : ℕ) (limits : Limits) (explored : Explored) : Type 0 where
  pub auto : RawValue
  pub raw_is : IsRaw auto
  pub auto_is : IsAuto auto
  pub row_states : ℕ
  pub row_nodes : ℕ
  pub built : IsBuilt machine parts limits (table_of_auto auto) row_states row_nodes
  pub slots : explored.raw.arena.slots ≡ auto.arena.slots
  pub verdict : HaveSameVerdict auto.arena.slots (raw_accepts explored.raw) (raw_accepts auto)
  pub states : length explored.raw.rows ≤ limits.states
  pub nodes : length explored.raw.arena.nodes ≤ limits.nodes

-- what is explored for the machine serves, and so does the canonical automaton itself
pub record IsServing {S : Type 0} (machine : WorkingMachine S) (parts : ℕ) (limits : Limits) (explored : Explored) : Type 0 where
  pub decides : IsDeciding machine parts limits explored
  pub each : (auto : RawValue) → IsLeastOf explored.raw auto → IsBuilt machine parts limits (table_of_auto auto) explored.states explored.nodes

abbrev pub IsPassed : {S : Type 0} → WorkingMachine S → ℕ → Limits → ℕ → BuildFault → Type 0
IsPassed machine parts limits step (States at limit) = (at ≡ step) × (limit ≡ limits.states) × Passes TooManyStates machine parts limits
IsPassed machine parts limits step (Nodes at limit) = (at ≡ step) × (limit ≡ limits.nodes) × Passes TooManyNodes machine parts limits
IsPassed machine parts limits step Memory = ⊤

pub record SettlesTo {S X : Type 0} (machine : WorkingMachine S) (parts : ℕ) (limits : Limits) (step : ℕ) (IsGiven : X → Type 0) (result : Result X BuildFault) : Type 0 where
  pub built : IfOk result IsGiven
  pub over : IfErr result (IsPassed machine parts limits step)

abbrev pub Settles : {S : Type 0} → WorkingMachine S → ℕ → Limits → ℕ → Result Explored BuildFault → Type 0
Settles machine parts limits step result = SettlesTo machine parts limits step (HasExplored machine parts limits) result

abbrev pub Serves : {S : Type 0} → WorkingMachine S → ℕ → Limits → ℕ → Result Explored BuildFault → Type 0
Serves machine parts limits step result = SettlesTo machine parts limits step (IsServing machine parts limits) result

abbrev pub Decides : {S : Type 0} → WorkingMachine S → ℕ → Limits → ℕ → Result Explored BuildFault → Type 0
Decides machine parts limits step result = SettlesTo machine parts limits step (IsDeciding machine parts limits) result

abbrev pub ExploresUpTo : {S : Type 0} → Extent → WorkingMachine S → Limits → Result RawValue ExploreFault → Type 0
ExploresUpTo Whole machine limits result = Explores machine limits result
ExploresUpTo Verdict machine limits result = ExploresToVerdict machine limits result

abbrev pub SettlesUpTo : {S : Type 0} → Extent → WorkingMachine S → ℕ → Limits → ℕ → Result Explored BuildFault → Type 0
SettlesUpTo Whole machine parts limits step result = Settles machine parts limits step result
SettlesUpTo Verdict machine parts limits step result = SettlesTo machine parts limits step (HasExploredVerdict machine limits) result

-- ---- on a shelf

pub record IsFor {S : Type 0} (machine : WorkingMachine S) (parts : ℕ) (limits : Limits) (shelf : List ShelfTable) (answer : Answer) : Type 0 where
  pub one : ShelfTable
  pub there : slice_get shelf answer.number ≡ Some one
  pub built : IsBuilt machine parts limits one answer.states answer.nodes

abbrev pub Answers : {S : Type 0} → WorkingMachine S → ℕ → Limits → ℕ → List ShelfTable → Result Answer BuildFault → Type 0
Answers machine parts limits step shelf result = SettlesTo machine parts limits step (IsFor machine parts limits shelf) result

-- what a fault of the explorer is at a step, with the whole limits
abbrev pub fault_at : ℕ → Limits → ExploreFault → BuildFault
fault_at step limits (TooMany limit) = States step limits.states
fault_at step limits (TooLarge limit) = Nodes step limits.nodes
fault_at step limits NoMemory = Memory
