-- The operands of a list are built and joined one after another, and then the list itself is built.
use Rattle.std.proofs.Common.{◌≡◌, ◌<◌, ◌≤◌, ℕ, suc, Bool, not, List, [], ◌∷◌, ◌++◌, length, map, drop, get_or, Result, Ok, Err, refl, ap, sym, subst, ◌∙◌}
use Rattle.std.specs.List.{flat_map}
use Rattle.std.proofs.Math.Seq.{drop-cons}
use Rattle.std.proofs.Math.ListN.{drop_of_length-le}
use Rattle.std.specs.Result.{IfOk, OnOk}
use Rattle.dcv_arena.specs.Arena.{ArenaValue, IsArena, KeepsRefs, AddsOnlyNodesOf, count_with}
use Rattle.dcv_arena.specs.declared.nodes.Ref.{Ref}
use Rattle.dcv_core.specs.declared.truths.Truth.{Truth}
use Rattle.dcv_core.specs.Core.{PlainTruth, TruthNot, TruthJoined}
use Rattle.dcv_core.specs.Holds.{truth_holds}
use Rattle.dcv_core.specs.TruthViews.{plain_truth, truths_of}
use Rattle.dcv_atoms.specs.declared.faults.AtomFault.{AtomFault}
use Rattle.dcv_syntax.specs.declared.propositions.Connective.{Connective}
use Rattle.dcv_logic.specs.Connectives.{joins}
use Rattle.dcv_atoms.specs.Parts.{parts, number_at}
use Rattle.dcv_atoms.specs.Functions.{Means}
use Rattle.dcv_atoms.specs.Built.{Builds, Exceeds, OnTheWay}
use Rattle.dcv_atoms.proofs.Building.{builds_one, builds_in_turn, builds_nothing, exceeds_one, exceeds_more, exceeds_after, leads_on, leads_over}
use Rattle.dcv_atoms.proofs.Joining.{list_parts, means_alike}

-- what a fact gives that holds where a call succeeds
pub on_ok : {T E P Q : Type 0} (result : Result T E) → (P → Q) → OnOk result P → OnOk result Q
on_ok (Ok value) gives p = gives p
on_ok (Err fault) gives p = tt

pub if_ok : {T E : Type 0} {P Q : T → Type 0} (result : Result T E) → ((value : T) → P value → Q value) → IfOk result P → IfOk result Q
if_ok (Ok value) gives p = gives value p
if_ok (Err fault) gives p = tt

pub means_at : (arena : ArenaValue) (root : Ref) (slots others : ℕ) (P : List Bool → Bool) → slots ≡ others → Means arena root slots P → Means arena root others P
means_at arena root slots others P same means = subst (λ slots. Means arena root slots P) same means

-- ---- a function that is put into the arena

module _ (old new : ArenaValue) (p : PlainTruth) where
  pub put_builds : KeepsRefs old new → (result : Result Ref AtomFault) → IfOk result (AddsOnlyNodesOf old new) → IfOk result (λ root. Means new root old.slots (truth_holds p))
      → OnOk result (Builds old new (p ∷ []))
  put_builds kept (Ok root) adds means = builds_one old new root p kept adds means
  put_builds kept (Err fault) adds means = tt

-- ---- a proposition with operands

-- its operands and then itself
pub whole_builds : (old middle new : ArenaValue) (first : List PlainTruth) (whole : PlainTruth) → first ++ whole ∷ [] ≡ parts whole → Builds old middle first → Builds middle new (whole ∷ [])
    → Builds old new (parts whole)
whole_builds old middle new first whole same early late = subst (Builds old new) same (builds_in_turn old middle new first (whole ∷ []) early late)

pub whole_exceeds : (old middle : ArenaValue) (first : List PlainTruth) (whole : PlainTruth) (limit : ℕ) → first ++ whole ∷ [] ≡ parts whole → Builds old middle first
    → Exceeds middle (whole ∷ []) limit → Exceeds old (parts whole) limit
whole_exceeds old middle first whole limit same early more = subst (λ listed. Exceeds old listed limit) same (exceeds_after old middle first (whole ∷ []) limit early more)

pub operand_exceeds : (old : ArenaValue) (first : List PlainTruth) (whole : PlainTruth) (limit : ℕ) → first ++ whole ∷ [] ≡ parts whole → Exceeds old first limit → Exceeds old (parts whole) limit
operand_exceeds old first whole limit same more = subst (λ listed. Exceeds old listed limit) same (exceeds_more old first (whole ∷ []) limit more)

-- ---- the operands of a list

pub way_goes_on : (old here there : ArenaValue) (connective : Connective) (listed left : List PlainTruth) (p : PlainTruth) (all next : ArenaValue) (root part after : Ref)
    → OnTheWay old here connective listed (p ∷ left) all root
    → IsArena there → Builds here there (parts p) → Means there part here.slots (truth_holds p)
    → ((P Q : List Bool → Bool) → Means all root there.slots P → Means there part there.slots Q → Means next after there.slots (λ letter. joins connective (P letter) (Q letter)))
    → OnTheWay old there connective listed left next after
way_goes_on old here there connective listed left p all next root part after way is built means both =
    let leads = leads_on old here there (parts p) (flat_map parts left) (flat_map parts listed) way.leads built in
    record {
      arena = is;
      leads = leads;
      so_far = λ letter. joins connective (way.so_far letter) (truth_holds p letter);
      means = means_at next after there.slots old.slots (λ letter. joins connective (way.so_far letter) (truth_holds p letter)) leads.kept.slots
          (both way.so_far (truth_holds p)
          (means_at all root old.slots there.slots way.so_far (sym leads.kept.slots) way.means)
          (means_at there part here.slots there.slots (truth_holds p) (sym built.kept.slots) means));
      rest = way.rest;
    }

pub way_exceeds : (old here : ArenaValue) (connective : Connective) (listed left : List PlainTruth) (p : PlainTruth) (all : ArenaValue) (root : Ref) (limit : ℕ)
    → OnTheWay old here connective listed (p ∷ left) all root → Exceeds here (parts p) limit → Exceeds old (parts (TruthJoined connective (truths_of listed))) limit
way_exceeds old here connective listed left p all root limit way more =
    operand_exceeds old (flat_map parts listed) (TruthJoined connective (truths_of listed)) limit (list_parts connective listed)
    (leads_over old here (parts p) (flat_map parts left) (flat_map parts listed) limit way.leads more)

-- at the end the function is what the list says
module _ (old here : ArenaValue) (connective : Connective) (listed : List PlainTruth) (all : ArenaValue) (root : Ref) (way : OnTheWay old here connective listed [] all root) where
  abbrev whole : PlainTruth
  whole = TruthJoined connective (truths_of listed)

  pub way_means : Means all root here.slots (truth_holds whole)
  way_means =
      means_at all root old.slots here.slots (truth_holds whole) (sym way.leads.kept.slots)
      (means_alike all root old.slots way.so_far (truth_holds whole) (λ letter size. way.rest letter) way.means)

  way_builds : Builds old here (flat_map parts listed)
  way_builds = way.leads.builds here (builds_nothing here)

  pub way_ends : (new : ArenaValue) (result : Result Ref AtomFault) → KeepsRefs here new → IfOk result (AddsOnlyNodesOf here new) → IfOk result (λ root. Means new root here.slots (truth_holds whole))
      → OnOk result (Builds old new (parts whole))
  way_ends new result kept adds means =
      on_ok result (λ built. whole_builds old here new (flat_map parts listed) whole (list_parts connective listed) way_builds built)
      (put_builds here new whole kept result adds means)

  pub way_ends_over : (limit : ℕ) → IsArena here → (limit ≡ here.limit) × (limit < count_with here (number_at whole)) → Exceeds old (parts whole) limit
  way_ends_over limit is over =
      whole_exceeds old here (flat_map parts listed) whole limit (list_parts connective listed) way_builds (exceeds_one here whole limit is over.0 over.1)

-- ---- the opposite

module _ (old middle : ArenaValue) (part : Ref) (p whole : PlainTruth) (same : TruthNot p ≡ whole) (means : Means middle part old.slots (truth_holds p)) (early : Builds old middle (parts p)) where
  pub not_means : Means middle part middle.slots (truth_holds p)
  not_means = means_at middle part old.slots middle.slots (truth_holds p) (sym early.kept.slots) means

  pub not_is : (new : ArenaValue) (root : Ref) → Means new root middle.slots (λ letter. not (truth_holds p letter)) → Means new root old.slots (truth_holds whole)
  not_is new root opposite =
      subst (λ whole. Means new root old.slots (truth_holds whole)) same
      (means_at new root middle.slots old.slots (truth_holds (TruthNot p)) early.kept.slots opposite)

  pub not_builds : (new : ArenaValue) → Builds middle new (TruthNot p ∷ []) → Builds old new (parts whole)
  not_builds new late = subst (λ whole. Builds old new (parts whole)) same (whole_builds old middle new (parts p) (TruthNot p) refl early late)

  pub not_exceeds : (limit : ℕ) → Exceeds middle (TruthNot p ∷ []) limit → Exceeds old (parts whole) limit
  not_exceeds limit more = subst (λ whole. Exceeds old (parts whole) limit) same (whole_exceeds old middle (parts p) (TruthNot p) limit refl early more)

-- ---- the operands of a slice

-- those that are left begin with the next one
pub left_is : (operands : List Truth) (place next : ℕ) (item : Truth) → place < length operands → item ≡ get_or operands place item → next ≡ suc place
    → map plain_truth (drop place operands) ≡ plain_truth item ∷ map plain_truth (drop next operands)
left_is operands place next item within is more =
    ap (map plain_truth) (drop-cons operands place item within ∙ (λ i. sym is i ∷ drop (sym more i) operands))

pub none_left : (operands : List Truth) (place : ℕ) → length operands ≤ place → map plain_truth (drop place operands) ≡ []
none_left operands place beyond = ap (map plain_truth) (drop_of_length-le operands beyond)
