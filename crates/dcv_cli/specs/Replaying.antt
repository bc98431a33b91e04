-- The two files of a replay, one after the other.
--     IsReplayOf subset text replay         the replay stands where the observer of the text begins
--     FulfilsTrace observer name ..         the outcomes that are right for the trace, by its name
--     LeavesTrace observer name ..          what was written where the trace failed
use Rattle.std.specs.Prelude.{◌≡◌, ℕ, List, [], ◌∷◌, Option, Some}
use Rattle.dcv_cli.specs.Common.{Asks, Disk, Rises, Subset, Observer}
use Rattle.dcv_replay.specs.Observer.{Follows}
use Rattle.dcv_replay.specs.Program.{ReplayValue}
use Rattle.dcv_cli.specs.Held.{OnHeld, ForHeld}
use Rattle.dcv_cli.specs.ObserverFile.{IsObserverText}
use Rattle.dcv_cli.specs.Outcome.{Outcome}
use Rattle.dcv_cli.specs.Outside.{Outside}
use Rattle.dcv_cli.specs.Replayed.{IsReplay, IsCutShort}

-- no letter came yet
pub record IsReplayOf (subset : Subset) (text : List ℕ) (replay : ReplayValue) : Type 0 where
  pub observer : Observer
  pub is : IsObserverText subset text observer
  pub follows : Follows observer [] replay

-- ---- after the observer

abbrev pub FulfilsTrace : Observer → List ℕ → Option Disk → Outcome → Type 0
FulfilsTrace observer name told outcome = ForHeld told (λ held. OnHeld (held 0) name (IsReplay observer) outcome)

-- nothing where the trace could not be opened, and else the answers up to there
pub data LeavesOfTrace (observer : Observer) (name : List ℕ) (trace : Option (List ℕ)) (before after : Outside) (bytes : List ℕ) : Type 0 where
  OfOpen : Asks (name ∷ []) before.asked after.asked → Rises before.open_faults after.open_faults → bytes ≡ []
      → LeavesOfTrace observer name trace before after bytes
  OfRead : Asks (name ∷ []) before.asked after.asked → Rises before.read_faults after.read_faults
      → (text : List ℕ) → trace ≡ Some text → IsCutShort observer text after.told bytes → LeavesOfTrace observer name trace before after bytes

abbrev pub LeavesTrace : Observer → List ℕ → Outside → Outside → List ℕ → Type 0
LeavesTrace observer name before after bytes = ForHeld before.told (λ held. LeavesOfTrace observer name (held 0 name) before after bytes)
