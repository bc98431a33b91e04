-- The two sides of a slot: what is given with false there, and with true. What comes of a side is what comes of the whole at the letters with that
-- value in the slot, so what was built for a side is of each function that may come of the whole.
use Rattle.std.proofs.Common.{◌≡◌, ℕ, suc, ◌+◌, ◌-◌, ◌<◌, ◌≤◌, Bool, true, false, cond, List, [], ◌∷◌, ◌++◌, length, replicate, set, get_or, Contains, inl, inr, refl, sym, ap, subst, ◌∙◌, arith}
use Rattle.std.proofs.lemmas.List.{append_assoc, length-append, length-replicate, set-get_or, get_or-append_right, get_or_append_left}
use Rattle.dcv_arena.specs.Arena.{ArenaValue, IsArena, IsRef, IsNew, level_of, value_of, table_of, KeepsRefs, AddsOnlyNodesOf, AddsOnlyNodesOfFunction, count_with}
use Rattle.dcv_arena.specs.Diagram.{as_table, nodes_of}
use Rattle.dcv_arena.specs.Pointwise.{MeansMerged, AgreesBehind, FixesSlot}
use Rattle.dcv_arena.specs.declared.nodes.Ref.{Ref}
use Rattle.dcv_arena.proofs.Behind.{behind_fronts}
use Rattle.dcv_arena.proofs.Together.{new_is_one_more, added_are_counted}

-- a front that goes on with false up to the slot, and has this value there
abbrev deeper : List Bool → ℕ → Bool → List Bool
deeper front slot value = front ++ (replicate (slot - length front) false ++ value ∷ [])

length-deeper : (front : List Bool) (slot : ℕ) (value : Bool) → length front ≤ slot → length (deeper front slot value) ≡ suc slot
length-deeper front slot value within =
    let blank = replicate (slot - length front) false in
    omega (arith, length-append front (blank ++ value ∷ []), length-append blank (value ∷ []), length-replicate (slot - length front) false)

deeper-value : (front : List Bool) (slot : ℕ) (value : Bool) (values : List Bool) → length front ≤ slot → get_or (deeper front slot value ++ values) slot false ≡ value
deeper-value front slot value values within =
    let blank = replicate (slot - length front) false in
    let size = length-deeper front slot value within in
    let first : slot - length front - (slot - length front) ≡ 0 = omega arith in
    get_or_append_left (deeper front slot value) values false slot (omega arith)
    ∙ get_or-append_right front (blank ++ value ∷ []) (length front) slot false refl within
    ∙ get_or-append_right blank (value ∷ []) (slot - length front) (slot - length front) false (length-replicate (slot - length front) false) (omega arith)
    ∙ ap (λ place. get_or (value ∷ []) place false) first

module _ {X : Type 0} {whole part : List Bool → X} {slot : ℕ} {value : Bool} (fixes : FixesSlot whole part slot value) where
  -- where the slot has the value already both have the same
  pub same_there : (letter : List Bool) → slot < length letter → get_or letter slot false ≡ value → part letter ≡ whole letter
  same_there letter inside at = fixes.at letter inside ∙ ap whole (ap (set letter slot) (sym at) ∙ set-get_or letter slot false)

  -- what a function agrees with after a front, it agrees with on each side
  agrees_deeper : (gives more : X → ℕ → Type 0) (slots : ℕ) (front : List Bool) (function : List Bool → ℕ) → slot < slots → length front ≤ slot
      → ((given : X) (number : ℕ) → gives given number → more given number)
      → AgreesBehind more whole slots front function → AgreesBehind gives part slots (deeper front slot value) function
  agrees_deeper gives more slots front function inner within known agrees values number size given =
      let back = replicate (slot - length front) false ++ value ∷ [] in
      let letter = deeper front slot value ++ values in
      let joined : letter ≡ front ++ (back ++ values) = append_assoc front back values in
      let long = length-deeper front slot value within in
      let inside : slot < length letter = omega (arith, length-append (deeper front slot value) values) in
      let same : part letter ≡ whole (front ++ (back ++ values)) = same_there letter inside (deeper-value front slot value values within) ∙ ap whole joined in
      ap function joined
      ∙ agrees (back ++ values) number (omega (arith, length-append front (back ++ values), ap length joined, length-append (deeper front slot value) values))
      (subst (λ given. more given number) same (known (part letter) number given))

  -- so what was added for a side is of the function
  pub side_adds : (gives more : X → ℕ → Type 0) (old new : ArenaValue) (front : List Bool) (function : List Bool → ℕ) → slot < old.slots → length front ≤ slot
      → ((given : X) (number : ℕ) → gives given number → more given number)
      → ((front : List Bool) (function : List Bool → ℕ) → length front ≤ slot + 1 → AgreesBehind gives part old.slots front function → AddsOnlyNodesOfFunction old new function)
      → AgreesBehind more whole old.slots front function → AddsOnlyNodesOfFunction old new function
  side_adds gives more old new front function inner within known stray agrees =
      stray (deeper front slot value) function (omega (arith, length-deeper front slot value within)) (agrees_deeper gives more old.slots front function inner within known agrees)

  -- and where it was too much, so is the function
  pub side_full : (gives more : X → ℕ → Type 0) (limit : ℕ) (old : ArenaValue) (front : List Bool) (function : List Bool → ℕ) → slot < old.slots → length front ≤ slot
      → ((given : X) (number : ℕ) → gives given number → more given number)
      → ((front : List Bool) (function : List Bool → ℕ) → length front ≤ slot + 1 → AgreesBehind gives part old.slots front function → limit < count_with old function)
      → AgreesBehind more whole old.slots front function → limit < count_with old function
  side_full gives more limit old front function inner within known full agrees =
      full (deeper front slot value) function (omega (arith, length-deeper front slot value within)) (agrees_deeper gives more old.slots front function inner within known agrees)

-- ---- one addition after another

pub adds_in_turn : (old middle new : ArenaValue) (function : List Bool → ℕ) → new.slots ≡ middle.slots
    → AddsOnlyNodesOfFunction old middle function → AddsOnlyNodesOfFunction middle new function → AddsOnlyNodesOfFunction old new function
adds_in_turn old middle new function same early late node c = elim (late node c) [
  | inl before ↦ elim (early node before) [
    | inl first ↦ inl first
    | inr own ↦ inr (subst (λ slots. Contains (nodes_of slots (as_table slots function)) node) (sym same) own)
  ]
  | inr own ↦ inr own
]

-- ---- the node

-- what comes of it is the number of its side
pub merged_by_side : {X : Type 0} (gives : X → ℕ → Type 0) (given : X) (lo hi : ℕ) (side : Bool) → (side ≡ false → gives given lo) → (side ≡ true → gives given hi)
    → gives given (cond side hi lo)
merged_by_side gives given lo hi true on_lo on_hi = on_hi refl
merged_by_side gives given lo hi false on_lo on_hi = on_lo refl

module _ {X : Type 0} (gives : X → ℕ → Type 0) (whole : List Bool → X) (front : List Bool) (function : List Bool → ℕ) where
  -- the nodes of what was merged are of each function that agrees with it after a front
  pub merged_adds : (old new : ArenaValue) (root : Ref) → IsArena new → IsRef new root → length front ≤ level_of new root → MeansMerged gives whole new root
      → AgreesBehind gives whole new.slots front function → AddsOnlyNodesOf old new root → AddsOnlyNodesOfFunction old new function
  merged_adds old new root is one below merged agrees adds node c = elim (adds node c) [
    | inl before ↦ inl before
    | inr own ↦ inr (behind_fronts new root front function is one below
        (λ values size. sym (agrees values (value_of new root (front ++ values)) size (merged (front ++ values) (length-append front values ∙ size)))) node own)
  ]

  -- where there is no room for a node that is new, each such function is too much
  pub node_full : (old now : ArenaValue) (slot : ℕ) (lo hi : Ref) → IsArena old → IsArena now → KeepsRefs old now → AddsOnlyNodesOfFunction old now function
      → IsRef now lo → IsRef now hi → slot < now.slots → slot < level_of now lo → slot < level_of now hi → IsNew now slot lo hi → length front ≤ slot
      → ((letter : List Bool) → length letter ≡ now.slots → gives (whole letter) (cond (get_or letter slot false) (value_of now hi letter) (value_of now lo letter)))
      → AgreesBehind gives whole now.slots front function → length now.nodes < count_with old function
  node_full old now slot lo hi was is kept adds lo_ref hi_ref inner lo_later hi_later fresh within merged agrees =
      let more = new_is_one_more now slot lo hi front function is lo_ref hi_ref inner lo_later hi_later fresh within
      (λ values size. agrees values _ size (merged (front ++ values) (length-append front values ∙ size))) in
      omega (arith, more, added_are_counted old now function was is kept adds)

pub agrees_at : {X : Type 0} (gives : X → ℕ → Type 0) (whole : List Bool → X) (slots slots' : ℕ) (front : List Bool) (function : List Bool → ℕ) → slots' ≡ slots
    → AgreesBehind gives whole slots front function → AgreesBehind gives whole slots' front function
agrees_at gives whole slots slots' front function same agrees values number size = agrees values number (size ∙ same)

-- ---- both sides, and then the node

module _ {X : Type 0} {whole low high : List Bool → X} {slot : ℕ} (on_false : FixesSlot whole low slot false) (on_true : FixesSlot whole high slot true)
    (gives more : X → ℕ → Type 0) (known : (given : X) (number : ℕ) → gives given number → more given number)
    (old one two : ArenaValue) (kept_one : KeepsRefs old one) (kept_two : KeepsRefs one two) (inner : slot < old.slots) where
  -- what was added for both is of the function
  pub sides_add : (front : List Bool) (function : List Bool → ℕ) → length front ≤ slot
      → ((front : List Bool) (function : List Bool → ℕ) → length front ≤ slot + 1 → AgreesBehind gives low old.slots front function → AddsOnlyNodesOfFunction old one function)
      → ((front : List Bool) (function : List Bool → ℕ) → length front ≤ slot + 1 → AgreesBehind more high one.slots front function → AddsOnlyNodesOfFunction one two function)
      → AgreesBehind more whole old.slots front function → AddsOnlyNodesOfFunction old two function
  sides_add front function within low_stray high_stray agrees =
      let inner_one : slot < one.slots = omega (arith, kept_one.slots) in
      adds_in_turn old one two function kept_two.slots
      (side_adds on_false gives more old one front function inner within known low_stray agrees)
      (side_adds on_true more more one two front function inner_one within (λ _ _ given. given) high_stray (agrees_at more whole old.slots one.slots front function kept_one.slots agrees))

  -- and the second too much, where it is for the arena with what was added for the first
  pub sides_full : (limit : ℕ) (front : List Bool) (function : List Bool → ℕ) → IsArena old → IsArena one → length front ≤ slot
      → ((front : List Bool) (function : List Bool → ℕ) → length front ≤ slot + 1 → AgreesBehind gives low old.slots front function → AddsOnlyNodesOfFunction old one function)
      → ((front : List Bool) (function : List Bool → ℕ) → length front ≤ slot + 1 → AgreesBehind more high one.slots front function → limit < count_with one function)
      → AgreesBehind more whole old.slots front function → limit < count_with old function
  sides_full limit front function was is within low_stray high_full agrees =
      let inner_one : slot < one.slots = omega (arith, kept_one.slots) in
      let too_much = side_full on_true more more limit one front function inner_one within (λ _ _ given. given) high_full (agrees_at more whole old.slots one.slots front function kept_one.slots agrees) in
      let added = side_adds on_false gives more old one front function inner within known low_stray agrees in
      omega (arith, too_much, added_are_counted old one function was is kept_one added)

  -- at each letter the side's number is what the merge gives
  pub sides_merged : (lo hi : Ref) → IsRef one lo → MeansMerged gives low one lo → MeansMerged more high two hi
      → (letter : List Bool) → length letter ≡ two.slots → more (whole letter) (cond (get_or letter slot false) (value_of two hi letter) (value_of two lo letter))
  sides_merged lo hi lo_ref lo_merged hi_merged letter size =
      let inside : slot < length letter = omega (arith, kept_one.slots, kept_two.slots) in
      merged_by_side more (whole letter) (value_of two lo letter) (value_of two hi letter) (get_or letter slot false)
      (λ side. subst (more (whole letter)) (sym (kept_two.values lo letter lo_ref))
      (subst (λ given. more given (value_of one lo letter)) (same_there on_false letter inside side) (known (low letter) (value_of one lo letter) (lo_merged letter (size ∙ kept_two.slots)))))
      (λ side. subst (λ given. more given (value_of two hi letter)) (same_there on_true letter inside side) (hi_merged letter size))

-- ---- the whole

-- what was added for each function that the result might be was added for the result
pub adds_root : {X : Type 0} (gives : X → ℕ → Type 0) (whole : List Bool → X) (old new : ArenaValue) (root : Ref)
    → ((given : X) (first second : ℕ) → gives given first → gives given second → first ≡ second) → new.slots ≡ old.slots
    → ((function : List Bool → ℕ) → AgreesBehind gives whole old.slots [] function → AddsOnlyNodesOfFunction old new function)
    → MeansMerged gives whole new root → AddsOnlyNodesOf old new root
unfolding table_of
adds_root gives whole old new root one same stray merged =
    stray (value_of new root) (λ values number size given. one (whole values) (value_of new root values) number (merged values (omega (arith, same))) given)
