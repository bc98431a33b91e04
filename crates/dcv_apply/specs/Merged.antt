-- What operands are merged into. What a merge gives for a list of numbers, or for whatever is given at a letter, is a relation, with at most one
-- number for each.
--     GoesOn may gives becomes old new            a merge that was called goes on, and keeps what it said
--     AgreesWithMerged gives given slots function    the function has that number, at each letter where the merge gives one
--     AddsOnlyOfMerged gives numbers from old now    all nodes that came are of each function that may come of the merge, below others
--     HasMoreMerged gives numbers from old limit    each function that may come of the merge has more new nodes than this
--     IsApplied gives too_many given old new result    what merging answers, and what becomes of the arena
use Rattle.std.specs.Prelude.{◌≡◌, ℕ, ◌≤◌, ◌<◌, Bool, List, length, Result, Err, IfOk}
use Rattle.dcv_arena.specs.Arena.{ArenaValue, IsArena, IsRef, KeepsRefs, AddsOnlyNodesOf, AddsOnlyNodesOfFunction, count_with}
use Rattle.dcv_arena.specs.Pointwise.{MeansMerged, AgreesBehind}
use Rattle.dcv_arena.specs.declared.nodes.Ref.{Ref}
use Rattle.dcv_apply.specs.declared.faults.ApplyFault.{ApplyFault}
use Rattle.dcv_apply.specs.declared.faults.ApplyFault.TheVariants.{Full, States}

-- numbers that were merged are merged so from then on, and lists that may be merged may be merged still
pub record GoesOn {M : Type 0} (may : M → List ℕ → Type 0) (gives : M → List ℕ → ℕ → Type 0) (becomes : M → M → Type 0) (old new : M) : Type 0 where
  pub known : (numbers : List ℕ) (number : ℕ) → gives old numbers number → gives new numbers number
  pub may_kept : (numbers : List ℕ) → may old numbers → may new numbers
  pub became : becomes old new

abbrev pub AgreesWithMerged : {X : Type 0} → (X → ℕ → Type 0) → (List Bool → X) → ℕ → (List Bool → ℕ) → Type 0
AgreesWithMerged gives given slots function = (letter : List Bool) (number : ℕ) → length letter ≡ slots → gives (given letter) number → function letter ≡ number

-- a function may come of the merge, where that depends on no slot before this one, if it agrees at all letters that begin with a front of such slots
abbrev pub AddsOnlyOfMerged : (List ℕ → ℕ → Type 0) → (List Bool → List ℕ) → ℕ → ArenaValue → ArenaValue → Type 0
AddsOnlyOfMerged gives numbers from old now = (front : List Bool) (function : List Bool → ℕ) → length front ≤ from
    → AgreesBehind gives numbers old.slots front function → AddsOnlyNodesOfFunction old now function

abbrev pub HasMoreMerged : (List ℕ → ℕ → Type 0) → (List Bool → List ℕ) → ℕ → ArenaValue → ℕ → Type 0
HasMoreMerged gives numbers from old limit = (front : List Bool) (function : List Bool → ℕ) → length front ≤ from
    → AgreesBehind gives numbers old.slots front function → limit < count_with old function

-- The result is the pointwise merge, and has brought no other node. After a refusal too, what was added are nodes of each function that
-- the result might have been: each such function has more nodes that are new than there is room, or the merge has too many numbers. The
-- refs that there were mean what they meant.
pub record IsApplied {X : Type 0} (gives : X → ℕ → Type 0) (too_many : ℕ → Type 0) (given : List Bool → X) (old new : ArenaValue) (result : Result Ref ApplyFault) : Type 0 where
  pub is_ref : IfOk result (IsRef new)
  pub value : IfOk result (MeansMerged gives given new)
  pub adds : IfOk result (AddsOnlyNodesOf old new)
  pub stray : (function : List Bool → ℕ) → AgreesWithMerged gives given old.slots function → AddsOnlyNodesOfFunction old new function
  pub limit : (limit : ℕ) → result ≡ Err (Full limit) → limit ≡ old.limit
  pub full : (limit : ℕ) (function : List Bool → ℕ) → result ≡ Err (Full limit) → AgreesWithMerged gives given old.slots function → limit < count_with old function
  pub states : (limit : ℕ) → result ≡ Err (States limit) → too_many limit
  pub kept : KeepsRefs old new
  pub arena : IsArena new
