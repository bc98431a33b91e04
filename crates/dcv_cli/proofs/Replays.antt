-- The observer of a replay, and what is right for the trace after it.
use Rattle.dcv_cli.proofs.Common.{◌≡◌, ◌≢◌, ◌≤◌, ℕ, List, [], ◌∷◌, length, Option, Some, refl, sym, subst, ◌∙◌}
use Rattle.dcv_cli.proofs.Common.{OnTrue, Asks, Disk, held_of, asks_in_turn, Replay, Subset, InLustre, InC, InTables, ObsFault, Observer}
use Rattle.dcv_cli.proofs.Common.{KeepsTheRules, Texts, OnHeld, IsHeldText, IsFaultIn, IsRefusedObserver, IsObserverText}
use Rattle.dcv_cli.proofs.Common.{Outcome, Outside, LeavesFor, most_observer_bytes, refusal_of_observer}
use Rattle.dcv_cli.proofs.Common.{status_of, IsReplay, FulfilsTrace, LeavesTrace, LeavesOfTrace, OfOpen, OfRead, Fulfils, FulfilsOver}
use Rattle.dcv_cli.proofs.Common.{is_determined}
use Rattle.dcv_observer.specs.declared.fault.ObsFault.TheVariants.{Memory}
use Rattle.dcv_replay.specs.Observer.{Lustre, C, Tables}
use Rattle.dcv_tables_read.specs.Laws.{ReadUnitsKeepTheRules}
use Rattle.dcv_cli.specs.ObserverFile.{Faulty, Read}
use Rattle.dcv_cli.specs.Replayed.{LeavesAnswers, OfOpen as NotOpened, OfRead as ReadFailed}
use Rattle.dcv_cli.proofs.TwoFiles.{later_held}

-- a fault of the text is a right refusal
pub explains_observer : (subset : Subset) (text : List ℕ) (fault : ObsFault) → length text ≤ most_observer_bytes → (fault ≢ Memory → IsFaultIn subset text fault)
    → OnTrue (is_determined (status_of (refusal_of_observer fault))) (IsRefusedObserver subset text (refusal_of_observer fault))
explains_observer subset text Memory short has = tt
explains_observer subset text fault short has = Faulty short fault (has (λ same. cc)) refl

-- an observer that is read keeps the rules of its language
pub keeps_the_rules : ReadUnitsKeepTheRules → (subset : Subset) (text : List ℕ) (observer : Observer) → IsObserverText subset text observer → KeepsTheRules observer
keeps_the_rules law InLustre text (Lustre node) is = is.read.well_named
keeps_the_rules law InLustre text (C unit) is = absurd is.read
keeps_the_rules law InLustre text (Tables unit) is = absurd is.read
keeps_the_rules law InC text (Lustre node) is = absurd is.read
keeps_the_rules law InC text (C unit) is = is.read.well_named
keeps_the_rules law InC text (Tables unit) is = absurd is.read
keeps_the_rules law InTables text (Lustre node) is = absurd is.read
keeps_the_rules law InTables text (C unit) is = absurd is.read
keeps_the_rules law InTables text (Tables unit) is = law text unit is.read

-- ---- of the file of a name

module _ (subset : Subset) (told : Option Disk) (name trace : List ℕ) (told' : Option Disk) (text : List ℕ) (observer : Observer) (same : held_of told' ≡ held_of told)
    (there : IsHeldText told name text) (is : IsObserverText subset text observer) where
  -- what is right for the trace, after the observer, is right for both
  pub fulfils_replay : (outcome : Outcome) → FulfilsTrace observer trace told' outcome → FulfilsOver (Replay subset name trace) told outcome
  fulfils_replay outcome right =
      later_held told told' name text (λ held. OnHeld (held 0) trace (IsReplay observer) outcome) (λ held. Fulfils (Replay subset name trace) held outcome) same there moves right
    where
      moves : (held late : Texts) → held 0 name ≡ Some text → held 1 ≡ late 0 → OnHeld (late 0) trace (IsReplay observer) outcome → Fulfils (Replay subset name trace) held outcome
      moves held late here next right = rw here (Read observer is (subst (λ held. OnHeld held trace (IsReplay observer) outcome) (sym next) right))

-- what was written where the trace failed is what was written for both
pub leaves_replay : (subset : Subset) (name trace text : List ℕ) (observer : Observer) (told : Option Disk) (asked : Option (List (List ℕ))) (calls : ℕ) (before after : Outside) (bytes : List ℕ)
    → Asks (name ∷ []) before.asked asked → held_of told ≡ held_of before.told → IsHeldText before.told name text → IsObserverText subset text observer
    → LeavesTrace observer trace (record before { told = told; asked = asked; calls = calls }) after bytes
    → LeavesFor (Replay subset name trace) before after bytes
leaves_replay subset name trace text observer told asked calls before after bytes one same there is left =
    later_held before.told told name text (λ held. LeavesOfTrace observer trace (held 0 trace) from after bytes)
    (λ held. LeavesAnswers subset name trace held before after bytes) same there moves left
  where
    from : Outside
    from = record before { told = told; asked = asked; calls = calls }

    both : Asks (trace ∷ []) asked after.asked → Asks (name ∷ trace ∷ []) before.asked after.asked
    both later = asks_in_turn before.asked asked after.asked (name ∷ []) (trace ∷ []) one later

    moves : (held late : Texts) → held 0 name ≡ Some text → held 1 ≡ late 0 → LeavesOfTrace observer trace (late 0 trace) from after bytes
        → LeavesAnswers subset name trace held before after bytes
    moves held late here next (OfOpen asked risen none) = NotOpened (both asked) risen (record { text = text; there = here; observer = observer; is = is }) none
    moves held late here next (OfRead asked risen found found_is short) = ReadFailed (both asked) risen (record {
      text = text;
      there = here;
      observer = observer;
      is = is;
      trace = found;
      trace_there = (λ i. next i trace) ∙ found_is;
      short = short;
    })
