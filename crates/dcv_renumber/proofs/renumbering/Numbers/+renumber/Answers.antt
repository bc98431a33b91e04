use Rattle.std.proofs.Common.{rules, ◌≡◌, ℕ, ◌+◌, ◌<◌, ◌≤◌, List, Bool, true, false, cond, get_or, length, replicate, Err, refl, sym, ap, subst, ◌∙◌, arith}
use Rattle.std.proofs.lemmas.List.{length-replicate}
use Rattle.std.proofs.lemmas.Result.{err_from_is_err_and}
use Rattle.dcv_arena.specs.Arena.{level_of, value_of, AddsOnlyNodesOfFunction}
use Rattle.dcv_arena.proofs.Roots.{kept_in_turn}
use Rattle.dcv_arena.specs.declared.nodes.Ref.TheVariants.{Place}
use Rattle.dcv_arena.specs.Pointwise.{exactly}
use Rattle.dcv_renumber.specs.Renumbered.{renumbered, IsNewRef, AddsOnlyOfNew, HasMoreNew}
use Rattle.dcv_renumber.proofs.NewNumbers.{new_leaf, places_grown, places_more, low, high, lo_covered, hi_covered, lo_is_new, lo_adds, lo_full}
use Rattle.dcv_arena.proofs.Sides.{adds_in_turn, merged_adds, node_full, sides_add, sides_full, sides_merged, agrees_at}
use Rattle.dcv_renumber.proofs.renumbering.Numbers.+renumber.Goals as goal
use Rattle.dcv_renumber.proofs.renumbering.Numbers.+renumber.Goals.{visit-After-split-lo, visit-After-renumber, visit-After-slots, visit-After-renumber-2, visit-After-node}
use Rattle.dcv_arena.specs.Pointwise.{FixesSlot}

pub renumber-bounds-self-number : goal.renumber-bounds-self-number
renumber-bounds-self-number t c =
    let blank = replicate c.args.arena.now.slots false in
    subst (λ root. value_of c.args.self.now.from.now root blank < length c.args.self.now.new.now) c.in-Leaf.is (c.requires.map blank (length-replicate c.args.arena.now.slots false))

pub renumber-returns-in-Some-clause-new : goal.renumber-returns-in-Some-clause-new
renumber-returns-in-Some-clause-new t c =
    subst (λ root. IsNewRef c.args.self.now.new.now c.args.self.now.from.now c.args.arena.now root c.in-Some.new) (sym c.in-Place.is)
    (c.requires.holds c.in-Place.place c.in-Some.new c.in-Some.ensures)

pub renumber-returns-in-Leaf-clause-new : goal.renumber-returns-in-Leaf-clause-new
renumber-returns-in-Leaf-clause-new t c =
    subst (IsNewRef c.args.self.now.new.now c.args.self.now.from.now c.args.arena.now c.args.root) (sym c.leaf.ensures.leaf)
    (new_leaf c.args.self.now.new.now c.args.self.now.from.now c.args.arena.now c.args.root c.in-Leaf.number c.in-Leaf.is)

-- what the visit returns is returned

pub renumber-returns-in-None-clause-stray : goal.renumber-returns-in-None-clause-stray
renumber-returns-in-None-clause-stray t c =
    subst (λ root. AddsOnlyOfNew c.args.self.now.new.now c.args.self.now.from.now root c.args.arena.now c.visit.new.arena) (sym c.in-Place.is) c.visit.ensures.stray

pub renumber-returns-in-None-clause-full : goal.renumber-returns-in-None-clause-full
renumber-returns-in-None-clause-full t c limit e =
    subst (λ root. HasMoreNew c.args.self.now.new.now c.args.self.now.from.now root c.args.arena.now limit) (sym c.in-Place.is) (c.visit.ensures.full limit e)

-- ---- the node that is visited, and its sides

low_later : {t : ℕ} (c : visit-After-split-lo t) → c.level-slot.result < level_of c.args.self.now.from.now c.split-lo.result.0
low_later c = c.split-lo.ensures.lo_level (c.level-slot.ensures.node c.args.place refl)

high_later : {t : ℕ} (c : visit-After-split-lo t) → c.level-slot.result < level_of c.args.self.now.from.now c.split-lo.result.1
high_later c = c.split-lo.ensures.hi_level (c.level-slot.ensures.node c.args.place refl)

abbrev own : {t : ℕ} → visit-After-split-lo t → List Bool → ℕ
own c = renumbered c.args.self.now.new.now c.args.self.now.from.now (Place c.args.place)

low_side : {t : ℕ} (c : visit-After-split-lo t) → FixesSlot (own c) (renumbered c.args.self.now.new.now c.args.self.now.from.now c.split-lo.result.0) c.level-slot.result false
low_side c =
    let split = c.split-lo.ensures in
    low c.args.self.now.new.now c.level-slot.ensures.arena c.args.place c.level-slot.ensures.level c.split-lo.result.0 c.split-lo.result.1 split.value split.lo_is_ref (low_later c)

high_side : {t : ℕ} (c : visit-After-split-lo t) → FixesSlot (own c) (renumbered c.args.self.now.new.now c.args.self.now.from.now c.split-lo.result.1) c.level-slot.result true
high_side c =
    let split = c.split-lo.ensures in
    high c.args.self.now.new.now c.level-slot.ensures.arena c.args.place c.level-slot.ensures.level c.split-lo.result.0 c.split-lo.result.1 split.value split.hi_is_ref (high_later c)

-- what was known before
abbrev split_of : {t : ℕ} → visit-After-renumber t → visit-After-split-lo t
split_of c = c.before.before.before

abbrev low_of : {t : ℕ} → visit-After-slots t → visit-After-renumber t
low_of c = c.before.before.before

abbrev slots_of : {t : ℕ} → visit-After-renumber-2 t → visit-After-slots t
slots_of c = c.before.before.before.before

abbrev high_of : {t : ℕ} → visit-After-node t → visit-After-renumber-2 t
high_of c = c.before.before.before.before

-- what came for the low side is of the node
low_adds : {t : ℕ} (c : visit-After-renumber t) → AddsOnlyOfNew c.args.self.now.new.now c.args.self.now.from.now (Place c.args.place) c.args.arena.now c.renumber.new.arena
low_adds c front function below =
    let split = c.split-lo.ensures in
    lo_adds c.args.self.now.new.now c.level-slot.ensures.arena c.args.place c.level-slot.ensures.level c.split-lo.result.0 c.split-lo.result.1 split.value split.lo_is_ref
    (low_later (split_of c)) c.args.arena.now c.renumber.new.arena c.renumber.ensures.stray front function (omega (arith, c.level-slot.ensures.level))

low_is_new : {t : ℕ} (c : visit-After-slots t) → c.slots.result ≤ c.level-slot.result
    → IsNewRef c.args.self.now.new.now c.args.self.now.from.now c.renumber.new.arena (Place c.args.place) c.in_ok-new_lo.new_lo
low_is_new c outside =
    let split = c.split-lo.ensures in
    lo_is_new c.args.self.now.new.now c.level-slot.ensures.arena c.args.place c.level-slot.ensures.level c.split-lo.result.0 c.split-lo.result.1 split.value split.lo_is_ref
    (low_later (split_of (low_of c))) c.renumber.new.arena c.in_ok-new_lo.new_lo (omega (arith, c.slots.ensures.slots)) c.in_ok-new_lo.ensures.new

inner : {t : ℕ} (c : visit-After-renumber-2 t) → c.level-slot.result < c.args.arena.now.slots
inner c = omega (arith, c.slots.ensures.slots, c.renumber.ensures.kept.slots)

-- and so is what came for both
both_add : {t : ℕ} (c : visit-After-renumber-2 t) → AddsOnlyOfNew c.args.self.now.new.now c.args.self.now.from.now (Place c.args.place) c.args.arena.now c.renumber-2.new.arena
both_add c front function below within agrees =
    let one = c.renumber.ensures.kept in
    let level = c.level-slot.ensures.level in
    sides_add (low_side (split_of (low_of (slots_of c)))) (high_side (split_of (low_of (slots_of c)))) exactly exactly (λ _ _ given. given) c.args.arena.now c.renumber.new.arena c.renumber-2.new.arena
    one c.renumber-2.ensures.kept (inner c) front function (omega arith)
    (λ longer other h behind. c.renumber.ensures.stray longer other (omega (arith, low_later (split_of (low_of (slots_of c))))) (omega (arith, inner c)) behind)
    (λ longer other h behind. c.renumber-2.ensures.stray longer other (omega (arith, high_later (split_of (low_of (slots_of c))))) (omega (arith, inner c, one.slots)) behind) agrees

-- the new numbers of both sides are those of the node
merged : {t : ℕ} (c : visit-After-node t) → (letter : List Bool) → length letter ≡ c.renumber-2.new.arena.slots
    → cond (get_or letter c.level-slot.result false) (value_of c.renumber-2.new.arena c.in_ok-new_hi.new_hi letter) (value_of c.renumber-2.new.arena c.in_ok-new_lo.new_lo letter)
    ≡ own (split_of (low_of (slots_of (high_of c)))) letter
merged c =
    let lo = c.in_ok-new_lo.ensures.new in
    sides_merged (low_side (split_of (low_of (slots_of (high_of c))))) (high_side (split_of (low_of (slots_of (high_of c))))) exactly exactly (λ _ _ given. given) c.args.arena.now c.renumber.new.arena c.renumber-2.new.arena
    c.renumber.ensures.kept c.renumber-2.ensures.kept (inner (high_of c)) c.in_ok-new_lo.new_lo c.in_ok-new_hi.new_hi lo.is_ref lo.value c.in_ok-new_hi.ensures.new.value

-- ---- the low side alone

pub visit-renumber-requires : goal.visit-renumber-requires
visit-renumber-requires t c =
    let split = c.split-lo.ensures in
    let later = low_later (goal.at.visit-renumber-requires t c).After-split-lo in (
      search rules,
      (
        split.lo_is_ref,
        (
          lo_covered c.args.self.now.new.now c.level-slot.ensures.arena c.args.place c.level-slot.ensures.level c.split-lo.result.0 c.split-lo.result.1
              split.value split.lo_is_ref later (length c.args.self.now.new.now) c.args.arena.now.slots c.requires.map,
          (c.requires.arena, c.requires.holds),
        ),
      ),
    )

pub visit-returns-in_err-new_lo-clause-stray : goal.visit-returns-in_err-new_lo-clause-stray
visit-returns-in_err-new_lo-clause-stray t c = low_adds (goal.at.visit-returns-in_err-new_lo-clause-stray t c).After-renumber

pub visit-returns-in_err-new_lo-clause-full : goal.visit-returns-in_err-new_lo-clause-full
visit-returns-in_err-new_lo-clause-full t c limit e front function below =
    let split = c.split-lo.ensures in
    let later = low_later (goal.at.visit-returns-in_err-new_lo-clause-full t c).After-split-lo in
    let p = err_from_is_err_and c.from_residual.result c.from_residual.ensures.1 in
    lo_full c.args.self.now.new.now c.level-slot.ensures.arena c.args.place c.level-slot.ensures.level c.split-lo.result.0 c.split-lo.result.1 split.value split.lo_is_ref later limit
    c.args.arena.now (c.renumber.ensures.full limit (c.in_err-new_lo.was ∙ ap Err (sym p.2) ∙ sym p.1 ∙ e)) front function (omega (arith, c.level-slot.ensures.level))

-- ---- no letter has the slot

pub visit-returns-then-slots-slot-clause-new : goal.visit-returns-then-slots-slot-clause-new
visit-returns-then-slots-slot-clause-new t c = low_is_new (goal.at.visit-returns-then-slots-slot-clause-new t c).After-slots c.if-slots-slot.true

pub visit-returns-then-slots-slot-clause-stray : goal.visit-returns-then-slots-slot-clause-stray
visit-returns-then-slots-slot-clause-stray t c = low_adds (goal.at.visit-returns-then-slots-slot-clause-stray t c).After-renumber

pub visit-returns-then-slots-slot-clause-holds : goal.visit-returns-then-slots-slot-clause-holds
visit-returns-then-slots-slot-clause-holds t c =
    places_more c.args.self.now.new.now c.args.self.now.from.now c.renumber.new.arena c.renumber.new.places c.put.new.self c.args.place c.in_ok-new_lo.new_lo c.put.ensures
    (low_is_new (goal.at.visit-returns-then-slots-slot-clause-holds t c).After-slots c.if-slots-slot.true) c.renumber.ensures.holds

-- ---- both sides

pub visit-renumber-requires-2 : goal.visit-renumber-requires-2
visit-renumber-requires-2 t c =
    let split = c.split-lo.ensures in
    let later = high_later (goal.at.visit-renumber-requires-2 t c).After-split-lo in (
      search rules,
      (
        split.hi_is_ref,
        (
          λ letter size. hi_covered c.args.self.now.new.now c.level-slot.ensures.arena c.args.place c.level-slot.ensures.level c.split-lo.result.0
              c.split-lo.result.1 split.value split.hi_is_ref later (length c.args.self.now.new.now) c.args.arena.now.slots (omega (arith, c.slots.ensures.slots, c.renumber.ensures.kept.slots))
              c.requires.map letter (size ∙ c.renumber.ensures.kept.slots),
          (c.renumber.ensures.arena, c.renumber.ensures.holds),
        ),
      ),
    )

pub visit-returns-in_err-new_hi-clause-stray : goal.visit-returns-in_err-new_hi-clause-stray
visit-returns-in_err-new_hi-clause-stray t c = both_add (goal.at.visit-returns-in_err-new_hi-clause-stray t c).After-renumber-2

pub visit-returns-in_err-new_hi-clause-full : goal.visit-returns-in_err-new_hi-clause-full
visit-returns-in_err-new_hi-clause-full t c limit e front function below within agrees =
    let here = (goal.at.visit-returns-in_err-new_hi-clause-full t c).After-renumber-2 in
    let split = split_of (low_of (slots_of here)) in
    let one = c.renumber.ensures.kept in
    let level = c.level-slot.ensures.level in
    let p = err_from_is_err_and c.from_residual-in_err-new_hi.result c.from_residual-in_err-new_hi.ensures.1 in
    let fault = c.in_err-new_hi.was ∙ ap Err (sym p.2) ∙ sym p.1 ∙ e in
    sides_full (low_side split) (high_side split) exactly exactly (λ _ _ given. given) c.args.arena.now c.renumber.new.arena c.renumber-2.new.arena one c.renumber-2.ensures.kept (inner here)
    limit front function c.requires.arena c.renumber.ensures.arena (omega arith)
    (λ longer other h behind. c.renumber.ensures.stray longer other (omega (arith, low_later split)) (omega (arith, inner here)) behind)
    (λ longer other h behind. c.renumber-2.ensures.full limit fault longer other (omega (arith, high_later split)) (omega (arith, inner here, one.slots)) behind) agrees

-- ---- the node

pub visit-returns-in_err-new-clause-stray : goal.visit-returns-in_err-new-clause-stray
visit-returns-in_err-new-clause-stray t c front function below within agrees =
    subst (λ new. AddsOnlyNodesOfFunction c.args.arena.now new function) (sym c.in_err-new.ensures.err)
    (both_add (goal.at.visit-returns-in_err-new-clause-stray t c).After-renumber-2 front function below within agrees)

pub visit-returns-in_err-new-clause-limit : goal.visit-returns-in_err-new-clause-limit
visit-returns-in_err-new-clause-limit t c limit e =
    let p = err_from_is_err_and c.from_residual-in_err-new.result c.from_residual-in_err-new.ensures.1 in
    let fault = c.in_err-new.was ∙ ap Err (sym p.2) ∙ sym p.1 ∙ e in
    ((c.node.ensures.full limit).0 fault).0 ∙ c.renumber-2.ensures.kept.limit ∙ c.renumber.ensures.kept.limit

pub visit-returns-in_err-new-clause-full : goal.visit-returns-in_err-new-clause-full
visit-returns-in_err-new-clause-full t c limit e front function below within agrees =
    let here = (goal.at.visit-returns-in_err-new-clause-full t c).After-node in
    let slot = c.level-slot.result in
    let two = c.renumber-2.new.arena in
    let kept = kept_in_turn c.args.arena.now c.renumber.new.arena two c.renumber.ensures.kept c.renumber-2.ensures.kept in
    let p = err_from_is_err_and c.from_residual-in_err-new.result c.from_residual-in_err-new.ensures.1 in
    let is_full = (c.node.ensures.full limit).0 (c.in_err-new.was ∙ ap Err (sym p.2) ∙ sym p.1 ∙ e) in
    let lo = c.in_ok-new_lo.new_lo in
    let lo_new = c.in_ok-new_lo.ensures.new in
    let hi_new = c.in_ok-new_hi.ensures.new in
    let inside = inner (high_of here) in
    let lo_after = lo_new.level (slot + 1) (omega (arith, low_later (split_of (low_of (slots_of (high_of here)))))) (omega (arith, inside, c.renumber.ensures.kept.slots)) in
    let hi_after = hi_new.level (slot + 1) (omega (arith, high_later (split_of (low_of (slots_of (high_of here)))))) (omega (arith, inside, kept.slots)) in
    let more = node_full exactly (own (split_of (low_of (slots_of (high_of here))))) front function c.args.arena.now two slot lo c.in_ok-new_hi.new_hi c.requires.arena c.renumber-2.ensures.arena kept
    (both_add (high_of here) front function below within agrees) (c.renumber-2.ensures.kept.refs lo lo_new.is_ref) hi_new.is_ref (omega (arith, inside, kept.slots))
    (omega (arith, c.renumber-2.ensures.kept.levels lo lo_new.is_ref, lo_after)) (omega (arith, hi_after)) is_full.1 (omega (arith, c.level-slot.ensures.level)) (merged here)
    (agrees_at exactly (own (split_of (low_of (slots_of (high_of here))))) c.args.arena.now.slots two.slots front function kept.slots agrees) in
    omega (arith, more, is_full.0, is_full.2)

pub visit-returns-in_err-new-clause-holds : goal.visit-returns-in_err-new-clause-holds
visit-returns-in_err-new-clause-holds t c =
    places_grown c.args.self.now.new.now c.args.self.now.from.now c.renumber-2.new.arena c.node.new.self c.renumber-2.new.places c.node.ensures.kept c.renumber-2.ensures.holds

-- the new node has the new numbers
pub visit-returns-clause-new : goal.visit-returns-clause-new
visit-returns-clause-new t c =
    let here = (goal.at.visit-returns-clause-new t c).After-node in
    let node = c.in_ok-new.ensures in
    record {
      is_ref = node.is_ref;
      level = λ early before within. omega (arith, node.level, c.level-slot.ensures.level);
      value = λ letter size. node.value letter ∙ merged here letter (size ∙ c.node.ensures.kept.slots);
    }

pub visit-returns-clause-stray : goal.visit-returns-clause-stray
visit-returns-clause-stray t c front function below within agrees =
    let here = (goal.at.visit-returns-clause-stray t c).After-node in
    let old = c.args.arena.now in
    let two = c.renumber-2.new.arena in
    let new = c.node.new.self in
    let whole = own (split_of (low_of (slots_of (high_of here)))) in
    let node = c.in_ok-new.ensures in
    adds_in_turn old two new function c.node.ensures.kept.slots (both_add (high_of here) front function below within agrees)
    (merged_adds exactly whole front function two new c.in_ok-new.new c.node.ensures.arena node.is_ref (omega (arith, node.level, c.level-slot.ensures.level))
    (λ letter size. node.value letter ∙ merged here letter (size ∙ c.node.ensures.kept.slots))
    (agrees_at exactly whole old.slots new.slots front function (c.node.ensures.kept.slots ∙ c.renumber-2.ensures.kept.slots ∙ c.renumber.ensures.kept.slots) agrees) node.adds)

pub visit-returns-clause-holds : goal.visit-returns-clause-holds
visit-returns-clause-holds t c =
    let from = c.args.self.now.from.now in
    let list = c.args.self.now.new.now in
    places_more list from c.node.new.self c.renumber-2.new.places c.put-2.new.self c.args.place c.in_ok-new.new c.put-2.ensures (visit-returns-clause-new t c)
    (places_grown list from c.renumber-2.new.arena c.node.new.self c.renumber-2.new.places c.node.ensures.kept c.renumber-2.ensures.holds)
