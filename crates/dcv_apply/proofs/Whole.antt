-- What is merged at all letters, of which none need begin alike.
use Rattle.std.proofs.Common.{◌≡◌, ℕ, ◌<◌, ◌≤◌, Bool, List, [], length, Result, Err, IfOk, arith}
use Rattle.std.proofs.lemmas.Result.{IfOk-weaker}
use Rattle.dcv_arena.specs.Arena.{ArenaValue, IsArena, IsRef, KeepsRefs, AddsOnlyNodesOfFunction, count_with}
use Rattle.dcv_arena.specs.declared.nodes.Ref.{Ref}
use Rattle.dcv_apply.specs.declared.faults.ApplyFault.{ApplyFault}
use Rattle.dcv_apply.specs.declared.faults.ApplyFault.TheVariants.{Full, States}
use Rattle.dcv_arena.specs.Pointwise.{MeansMerged, AgreesBehind}
use Rattle.dcv_apply.specs.Merged.{AgreesWithMerged, IsApplied}
use Rattle.dcv_arena.proofs.Sides.{adds_root}

module _ (gives : List ℕ → ℕ → Type 0) (numbers : List Bool → List ℕ) where
  pub from_start : (slots : ℕ) (function : List Bool → ℕ) → AgreesWithMerged gives numbers slots function → AgreesBehind gives numbers slots [] function
  from_start slots function agrees values number size given = agrees values number (omega arith) given

  -- what is known after every front is known of the whole
  pub applied : (old new : ArenaValue) (too_many : ℕ → Type 0) (result : Result Ref ApplyFault)
      → ((list : List ℕ) (first second : ℕ) → gives list first → gives list second → first ≡ second)
      → IfOk result (IsRef new) → IfOk result (MeansMerged gives numbers new)
      → ((front : List Bool) (function : List Bool → ℕ) → length front ≤ 0 → AgreesBehind gives numbers old.slots front function → AddsOnlyNodesOfFunction old new function)
      → ((limit : ℕ) → result ≡ Err (Full limit) → limit ≡ old.limit)
      → ((limit : ℕ) (front : List Bool) (function : List Bool → ℕ) → result ≡ Err (Full limit) → length front ≤ 0 → AgreesBehind gives numbers old.slots front function → limit < count_with old function)
      → ((limit : ℕ) → result ≡ Err (States limit) → too_many limit)
      → KeepsRefs old new → IsArena new
      → IsApplied gives too_many numbers old new result
  applied old new too_many result one is_ref value stray limit full states kept is = record {
    is_ref = is_ref;
    value = value;
    adds = IfOk-weaker result _ _ (λ root merged. adds_root gives numbers old new root one kept.slots (λ function agrees. stray [] function (omega arith) agrees) merged) value;
    stray = λ function agrees. stray [] function (omega arith) (from_start old.slots function agrees);
    limit = limit;
    full = λ limit function e agrees. full limit [] function e (omega arith) (from_start old.slots function agrees);
    states = states;
    kept = kept;
    arena = is;
  }
