-- What renumbering the two sides of a node tells of the node, and what places became while the arena grows.
use Rattle.std.proofs.Common.{◌≡◌, ℕ, ◌<◌, ◌≤◌, Bool, true, false, cond, List, [], ◌∷◌, ◌++◌, length, set, get_or, zero, suc, Option, Some, ◌⊎◌, inl, inr, refl, sym, ap, subst, ◌∙◌, arith}
use Rattle.std.proofs.lemmas.Bool.{cases_order}
use Rattle.std.proofs.lemmas.List.{get_or_past, get_or-set_same, length-append, length-set}
use Rattle.dcv_arena.specs.Arena.{ArenaValue, IsArena, IsRef, level_of, value_of, KeepsRefs, AddsOnlyNodesOfFunction, count_with}
use Rattle.dcv_arena.specs.Pointwise.{AgreesBehind, FixesSlot, exactly}
use Rattle.dcv_arena.specs.declared.nodes.Ref.{Ref}
use Rattle.dcv_arena.specs.declared.nodes.Ref.TheVariants.{Leaf, Place}
use Rattle.dcv_arena.proofs.Refs.{fixed_later}
use Rattle.dcv_arena.proofs.Sides.{side_adds, side_full}
use Rattle.dcv_renumber.specs.Became.{HasBecome}
use Rattle.dcv_renumber.specs.Renumbered.{renumbered, IsNewRef, HoldsPlaces}

-- ---- refs with new numbers

pub new_leaf : (new : List ℕ) (from arena : ArenaValue) (root : Ref) (number : ℕ) → root ≡ Leaf number → IsNewRef new from arena root (Leaf (get_or new number 0))
new_leaf new from arena root number leaf = record {
  is_ref = tt;
  level = λ slot before within. within;
  value = λ letter size. sym (ap (λ root. renumbered new from root letter) leaf);
}

pub new_grown : (new : List ℕ) (from old now : ArenaValue) (root result : Ref) → KeepsRefs old now → IsNewRef new from old root result → IsNewRef new from now root result
new_grown new from old now root result kept is = record {
  is_ref = kept.refs result is.is_ref;
  level = λ slot before within. let was = is.level slot before (omega (arith, kept.slots)) in omega (arith, kept.levels result is.is_ref);
  value = λ letter size. kept.values result letter is.is_ref ∙ is.value letter (size ∙ kept.slots);
}

pub places_grown : (new : List ℕ) (from old now : ArenaValue) (became : List (Option Ref)) → KeepsRefs old now → HoldsPlaces new from old became → HoldsPlaces new from now became
places_grown new from old now became kept holds place result there = new_grown new from old now (Place place) result kept (holds place result there)

-- what is there after one more was written
written_or_was : (became : List (Option Ref)) (place other : ℕ) (new result : Ref) → HasBecome (set became place (Some new)) other result → HasBecome became other result ⊎ ((other ≡ place) × (result ≡ new))
written_or_was [] place other new result there = inl there
written_or_was (one ∷ became) zero zero new result there = inr (refl, cc)
written_or_was (one ∷ became) zero (suc other) new result there = inl there
written_or_was (one ∷ became) (suc place) zero new result there = inl there
written_or_was (one ∷ became) (suc place) (suc other) new result there = elim (written_or_was became place other new result there) [
  | inl was ↦ inl was
  | inr own ↦ inr (ap suc own.0, own.1)
]

pub places_more : (new : List ℕ) (from arena : ArenaValue) (old now : List (Option Ref)) (place : ℕ) (result : Ref) → now ≡ set old place (Some result)
    → IsNewRef new from arena (Place place) result → HoldsPlaces new from arena old → HoldsPlaces new from arena now
places_more new from arena old now place result is_set is holds other ref there = elim (written_or_was old place other result ref (subst (λ became. HasBecome became other ref) is_set there)) [
  | inl before ↦ holds other ref before
  | inr own ↦ subst (λ (one : ℕ × Ref). IsNewRef new from arena (Place one.0) one.1) (λ i. (sym own.0 i, sym own.1 i)) is
]

-- ---- the sides of a node

module _ (new : List ℕ) {from : ArenaValue} (is : IsArena from) (place : ℕ) {slot : ℕ} (at : slot ≡ level_of from (Place place)) (lo hi : Ref)
    (value : (letter : List Bool) → value_of from (Place place) letter ≡ cond (get_or letter slot false) (value_of from hi letter) (value_of from lo letter)) where
  -- at the letters with this value in the slot
  value_set : (side : Bool) (letter : List Bool) → slot < length letter → value_of from (Place place) (set letter slot side) ≡ cond side (value_of from hi (set letter slot side)) (value_of from lo (set letter slot side))
  value_set side letter inside =
      value (set letter slot side) ∙ ap (λ one. cond one (value_of from hi (set letter slot side)) (value_of from lo (set letter slot side))) (get_or-set_same letter slot side false inside)

  module _ (lo_ref : IsRef from lo) (lo_later : slot < level_of from lo) where
    lo_value : (letter : List Bool) → slot < length letter → value_of from lo letter ≡ value_of from (Place place) (set letter slot false)
    lo_value letter inside = fixed_later from is.reduced lo slot lo_ref lo_later false letter ∙ sym (value_set false letter inside)

    pub low : FixesSlot (renumbered new from (Place place)) (renumbered new from lo) slot false
    low = record { at = λ letter inside. ap (λ number. get_or new number 0) (lo_value letter inside) }

    -- at letters without the slot it is false
    past : (letter : List Bool) → length letter ≤ slot → value_of from (Place place) letter ≡ value_of from lo letter
    past letter short = value letter ∙ (λ i. cond (get_or_past letter slot false short i) (value_of from hi letter) (value_of from lo letter))

    inside_covered : (bound slots : ℕ) (letter : List Bool) → ((letter : List Bool) → length letter ≡ slots → value_of from (Place place) letter < bound) → length letter ≡ slots → slot < length letter → value_of from lo letter < bound
    inside_covered bound slots letter covers size inside =
        subst (λ number. number < bound) (sym (lo_value letter inside)) (covers (set letter slot false) (length-set letter slot false ∙ size))

    outside_covered : (bound slots : ℕ) (letter : List Bool) → ((letter : List Bool) → length letter ≡ slots → value_of from (Place place) letter < bound) → length letter ≡ slots → length letter ≤ slot → value_of from lo letter < bound
    outside_covered bound slots letter covers size short = subst (λ number. number < bound) (past letter short) (covers letter size)

    pub lo_covered : (bound slots : ℕ) → ((letter : List Bool) → length letter ≡ slots → value_of from (Place place) letter < bound) → (letter : List Bool) → length letter ≡ slots → value_of from lo letter < bound
    lo_covered bound slots covers letter size = elim (cases_order slot (length letter)) [
      | inl equal ↦ outside_covered bound slots letter covers size (omega arith)
      | inr (inl inside) ↦ inside_covered bound slots letter covers size inside
      | inr (inr short) ↦ outside_covered bound slots letter covers size (omega arith)
    ]

    -- where no letter has the slot, the low side is the function
    pub lo_is_new : (arena : ArenaValue) (result : Ref) → arena.slots ≤ slot → IsNewRef new from arena lo result → IsNewRef new from arena (Place place) result
    lo_is_new arena result outside is_new = record {
      is_ref = is_new.is_ref;
      level = λ early before within. is_new.level early (omega (arith, at)) within;
      value = λ letter size. is_new.value letter size ∙ sym (ap (λ number. get_or new number 0) (past letter (omega arith)));
    }

    agrees_past : (slots : ℕ) (front : List Bool) (function : List Bool → ℕ) → slots ≤ slot
        → AgreesBehind exactly (renumbered new from (Place place)) slots front function → AgreesBehind exactly (renumbered new from lo) slots front function
    agrees_past slots front function outside agrees rest number size given =
        agrees rest number size (given ∙ sym (ap (λ number. get_or new number 0) (past (front ++ rest) (omega (arith, length-append front rest)))))

    -- what was added for the low side is of the function, whether letters have the slot or not
    pub lo_adds : (old now : ArenaValue)
        → ((front : List Bool) (function : List Bool → ℕ) → length front ≤ level_of from lo → length front ≤ old.slots → AgreesBehind exactly (renumbered new from lo) old.slots front function → AddsOnlyNodesOfFunction old now function)
        → (front : List Bool) (function : List Bool → ℕ) → length front ≤ slot → length front ≤ old.slots → AgreesBehind exactly (renumbered new from (Place place)) old.slots front function → AddsOnlyNodesOfFunction old now function
    lo_adds old now stray front function below within agrees =
        let outside : old.slots ≤ slot → AddsOnlyNodesOfFunction old now function = λ short. stray front function (omega arith) within (agrees_past old.slots front function short agrees) in
        elim (cases_order slot old.slots) [
          | inl equal ↦ outside (omega arith)
          | inr (inl inside) ↦ side_adds low exactly exactly old now front function inside below (λ _ _ given. given)
              (λ longer other h behind. stray longer other (omega arith) (omega arith) behind) agrees
          | inr (inr short) ↦ outside (omega arith)
        ]

    pub lo_full : (limit : ℕ) (old : ArenaValue)
        → ((front : List Bool) (function : List Bool → ℕ) → length front ≤ level_of from lo → length front ≤ old.slots → AgreesBehind exactly (renumbered new from lo) old.slots front function → limit < count_with old function)
        → (front : List Bool) (function : List Bool → ℕ) → length front ≤ slot → length front ≤ old.slots → AgreesBehind exactly (renumbered new from (Place place)) old.slots front function → limit < count_with old function
    lo_full limit old full front function below within agrees =
        let outside : old.slots ≤ slot → limit < count_with old function = λ short. full front function (omega arith) within (agrees_past old.slots front function short agrees) in
        elim (cases_order slot old.slots) [
          | inl equal ↦ outside (omega arith)
          | inr (inl inside) ↦ side_full low exactly exactly limit old front function inside below (λ _ _ given. given)
              (λ longer other h behind. full longer other (omega arith) (omega arith) behind) agrees
          | inr (inr short) ↦ outside (omega arith)
        ]

  module _ (hi_ref : IsRef from hi) (hi_later : slot < level_of from hi) where
    hi_value : (letter : List Bool) → slot < length letter → value_of from hi letter ≡ value_of from (Place place) (set letter slot true)
    hi_value letter inside = fixed_later from is.reduced hi slot hi_ref hi_later true letter ∙ sym (value_set true letter inside)

    pub high : FixesSlot (renumbered new from (Place place)) (renumbered new from hi) slot true
    high = record { at = λ letter inside. ap (λ number. get_or new number 0) (hi_value letter inside) }

    pub hi_covered : (bound slots : ℕ) → slot < slots → ((letter : List Bool) → length letter ≡ slots → value_of from (Place place) letter < bound) → (letter : List Bool) → length letter ≡ slots → value_of from hi letter < bound
    hi_covered bound slots inner covers letter size =
        subst (λ number. number < bound) (sym (hi_value letter (omega arith))) (covers (set letter slot true) (length-set letter slot true ∙ size))
