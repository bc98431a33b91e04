-- What a text comes to that is given as the text of an observer.
--     IsFaultIn subset text fault               the fault of the text, as one of this subset
--     IsObserverIn subset text observer         the observer that it spells there
--     IsRefusedObserver subset text refusal     the text is no observer's, for this reason
--     IsObserverText subset text observer       it spells the observer, which keeps the rules of its language
--     OnObserver subset text RightFor outcome   the outcomes that are right where a command is given this text
use Rattle.std.specs.Prelude.{◌≡◌, ℕ, ◌<◌, ◌≤◌, List, length}
use Rattle.dcv_cli.specs.Common.{Subset, ObsFault, Observer, Refusal, ObserverRefusal, Only}
use Rattle.dcv_c.specs.Faults as c
use Rattle.dcv_command.specs.declared.words.Subset.TheVariants.{Lustre as InLustre, C as InC, Tables as InTables}
use Rattle.dcv_lustre.specs.Faults as lustre
use Rattle.dcv_replay.specs.Observer.{Lustre, C, Tables}
use Rattle.dcv_tables_read.specs.Reading as tables
use Rattle.dcv_cli.specs.declared.faults.ObserverFault.TheVariants.{Length}
use Rattle.dcv_cli.specs.Outcome.{Outcome, refused}
use Rattle.dcv_cli.specs.Refusal.{most_observer_bytes, refusal_of_observer}

-- its syntax, or else its names
abbrev pub IsFaultIn : Subset → List ℕ → ObsFault → Type 0
IsFaultIn InLustre text fault = lustre.HasFault text fault
IsFaultIn InC text fault = c.HasFault text fault
IsFaultIn InTables text fault = tables.HasFault text fault

abbrev pub IsObserverIn : Subset → List ℕ → Observer → Type 0
IsObserverIn InLustre text (Lustre node) = lustre.IsReadAs text node
IsObserverIn InLustre text other = ⊥
IsObserverIn InC text (C unit) = c.IsReadAs text unit
IsObserverIn InC text other = ⊥
IsObserverIn InTables text (Tables unit) = tables.IsReadAs text unit
IsObserverIn InTables text other = ⊥

-- It is longer than such a text may be, or it has a fault.
pub data IsRefusedObserver (subset : Subset) (text : List ℕ) (refusal : Refusal) : Type 0 where
  TooLong : most_observer_bytes < length text → refusal ≡ ObserverRefusal Length → IsRefusedObserver subset text refusal
  Faulty : length text ≤ most_observer_bytes → (fault : ObsFault) → IsFaultIn subset text fault → refusal ≡ refusal_of_observer fault
      → IsRefusedObserver subset text refusal

pub record IsObserverText (subset : Subset) (text : List ℕ) (observer : Observer) : Type 0 where
  pub fits : length text ≤ most_observer_bytes
  pub read : IsObserverIn subset text observer

-- The text is refused, and the outcome says so; or it is that of an observer, and the outcome is right for that.
pub data OnObserver (subset : Subset) (text : List ℕ) (RightFor : Observer → Outcome → Type 0) (outcome : Outcome) : Type 0 where
  Refused : (refusal : Refusal) → IsRefusedObserver subset text refusal → outcome ≡ refused refusal Only → OnObserver subset text RightFor outcome
  Read : (observer : Observer) → IsObserverText subset text observer → RightFor observer outcome → OnObserver subset text RightFor outcome
