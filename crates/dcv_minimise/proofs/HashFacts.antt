-- Refs that have one block at each letter have one hash.
use Rattle.std.proofs.Common.{◌≡◌, ℕ, zero, suc, ◌+◌, ◌-◌, ◌<◌, ◌≤◌, Bool, true, false, if◌then◌else◌, List, [], ◌∷◌, ◌++◌, length, eqb, set, replicate, inl, inr, refl, sym, ap, ◌∙◌, arith}
use Rattle.std.proofs.lemmas.Bool.{cases_order, eq-eqb}
use Rattle.std.proofs.lemmas.List.{length-set, length-replicate, length_push, get_or_append_left, get_or_push}
use Rattle.dcv_arena.specs.Arena.{ArenaValue, IsReduced, IsRef, IsBefore, level_of, value_of}
use Rattle.dcv_arena.specs.declared.nodes.Ref.{Ref}
use Rattle.dcv_arena.specs.declared.nodes.Ref.TheVariants.{Leaf, Place}
use Rattle.dcv_arena.proofs.Refs.{is_ref, same_ref, fixed_later}
use Rattle.dcv_dfa.specs.NodeLines.{lo_of, hi_of}
use Rattle.dcv_dfa.proofs.Visits.{has_children}
use Rattle.dcv_refinement.specs.Members.{block_of}
use Rattle.dcv_minimise.specs.Hashes.{stirred, mixed, hash_at, hash_of_node, AreHashes}

mixed_same : (slot lo hi : ℕ) → lo ≡ hi → mixed slot lo hi ≡ lo
mixed_same slot lo hi same = ap (λ hi. if eqb lo hi then lo else stirred slot lo hi) (sym same) ∙ ap (λ (test : Bool). if test then lo else stirred slot lo lo) (eq-eqb lo lo refl)

module _ (arena : ArenaValue) (is : IsReduced arena) (blocks hashes : List ℕ) (all : length hashes ≡ length arena.nodes) (are : AreHashes arena blocks hashes) where
  -- at each letter two refs lead to one block
  abbrev pub LeadAlike : Ref → Ref → Type 0
  LeadAlike first second = (letter : List Bool) → length letter ≡ arena.slots → block_of blocks (value_of arena first letter) ≡ block_of blocks (value_of arena second letter)

  turned : (first second : Ref) → LeadAlike first second → LeadAlike second first
  turned first second alike letter size = sym (alike letter size)

  -- ---- the children of a node, beside a ref that comes later

  lo_later : (place : ℕ) (second : Ref) → place < length arena.nodes → IsRef arena second → level_of arena (Place place) < level_of arena second
      → LeadAlike (Place place) second → LeadAlike (lo_of arena place) second
  lo_later place second there one later alike letter size =
      let slot = level_of arena (Place place) in
      ap (block_of blocks) ((has_children arena is place there).lo_value letter size)
      ∙ alike (set letter slot false) (length-set letter slot false ∙ size)
      ∙ ap (block_of blocks) (sym (fixed_later arena is second slot one later false letter))

  hi_later : (place : ℕ) (second : Ref) → place < length arena.nodes → IsRef arena second → level_of arena (Place place) < level_of arena second
      → LeadAlike (Place place) second → LeadAlike (hi_of arena place) second
  hi_later place second there one later alike letter size =
      let slot = level_of arena (Place place) in
      ap (block_of blocks) ((has_children arena is place there).hi_value letter size)
      ∙ alike (set letter slot true) (length-set letter slot true ∙ size)
      ∙ ap (block_of blocks) (sym (fixed_later arena is second slot one later true letter))

  -- ---- and beside those of a node of the same slot

  lo_beside : (place other : ℕ) → place < length arena.nodes → other < length arena.nodes → level_of arena (Place place) ≡ level_of arena (Place other)
      → LeadAlike (Place place) (Place other) → LeadAlike (lo_of arena place) (lo_of arena other)
  lo_beside place other there here level alike letter size =
      let slot = level_of arena (Place place) in
      ap (block_of blocks) ((has_children arena is place there).lo_value letter size)
      ∙ alike (set letter slot false) (length-set letter slot false ∙ size)
      ∙ ap (λ slot. block_of blocks (value_of arena (Place other) (set letter slot false))) level
      ∙ ap (block_of blocks) (sym ((has_children arena is other here).lo_value letter size))

  hi_beside : (place other : ℕ) → place < length arena.nodes → other < length arena.nodes → level_of arena (Place place) ≡ level_of arena (Place other)
      → LeadAlike (Place place) (Place other) → LeadAlike (hi_of arena place) (hi_of arena other)
  hi_beside place other there here level alike letter size =
      let slot = level_of arena (Place place) in
      ap (block_of blocks) ((has_children arena is place there).hi_value letter size)
      ∙ alike (set letter slot true) (length-set letter slot true ∙ size)
      ∙ ap (λ slot. block_of blocks (value_of arena (Place other) (set letter slot true))) level
      ∙ ap (block_of blocks) (sym ((has_children arena is other here).hi_value letter size))

  -- ---- by how many slots there are after both

  abbrev behind : Ref → Ref → ℕ
  behind first second = (arena.slots - level_of arena first) + (arena.slots - level_of arena second)

  abbrev HaveOneHash : ℕ → Type 0
  HaveOneHash count = (first second : Ref) → IsRef arena first → IsRef arena second → behind first second ≤ count → LeadAlike first second
      → hash_at blocks hashes first ≡ hash_at blocks hashes second

  at_node : (place : ℕ) → place < length arena.nodes → hash_at blocks hashes (Place place) ≡ hash_of_node arena blocks hashes place
  at_node place there = are place (omega (arith, all, there))

  node_before : (count : ℕ) → HaveOneHash count → (place : ℕ) (second : Ref) → place < length arena.nodes → IsRef arena second → behind (Place place) second ≤ suc count
      → level_of arena (Place place) < level_of arena second → LeadAlike (Place place) second → hash_at blocks hashes (Place place) ≡ hash_at blocks hashes second
  node_before count have place second there one few later alike =
      let facts = has_children arena is place there in
      let slot = level_of arena (Place place) in
      let lo = have (lo_of arena place) second (is_ref arena is place (lo_of arena place) there facts.lo_before) one
      (omega (arith, few, facts.slot, facts.lo_later)) (lo_later place second there one later alike) in
      let hi = have (hi_of arena place) second (is_ref arena is place (hi_of arena place) there facts.hi_before) one
      (omega (arith, few, facts.slot, facts.hi_later)) (hi_later place second there one later alike) in
      at_node place there
      ∙ mixed_same slot (hash_at blocks hashes (lo_of arena place)) (hash_at blocks hashes (hi_of arena place)) (lo ∙ sym hi)
      ∙ lo

  nodes_beside : (count : ℕ) → HaveOneHash count → (place other : ℕ) → place < length arena.nodes → other < length arena.nodes → behind (Place place) (Place other) ≤ suc count
      → level_of arena (Place place) ≡ level_of arena (Place other) → LeadAlike (Place place) (Place other) → hash_at blocks hashes (Place place) ≡ hash_at blocks hashes (Place other)
  nodes_beside count have place other there here few level alike =
      let one = has_children arena is place there in
      let two = has_children arena is other here in
      let lo = have (lo_of arena place) (lo_of arena other) (is_ref arena is place (lo_of arena place) there one.lo_before) (is_ref arena is other (lo_of arena other) here two.lo_before)
      (omega (arith, few, one.slot, two.slot, one.lo_later, two.lo_later)) (lo_beside place other there here level alike) in
      let hi = have (hi_of arena place) (hi_of arena other) (is_ref arena is place (hi_of arena place) there one.hi_before) (is_ref arena is other (hi_of arena other) here two.hi_before)
      (omega (arith, few, one.slot, two.slot, one.hi_later, two.hi_later)) (hi_beside place other there here level alike) in
      at_node place there
      ∙ (λ i. mixed (level i) (lo i) (hi i))
      ∙ sym (at_node other here)

  have_one : (count : ℕ) → HaveOneHash count
  have_one count (Leaf first) (Leaf second) one other few alike = alike (replicate arena.slots false) (length-replicate arena.slots false)
  have_one zero (Leaf first) (Place other) one here few alike = let facts = has_children arena is other here in absurd (omega (arith, few, facts.slot))
  have_one zero (Place place) second there other few alike = let facts = has_children arena is place there in absurd (omega (arith, few, facts.slot))
  have_one (suc count) (Leaf first) (Place other) one here few alike =
      let facts = has_children arena is other here in
      sym (node_before count (have_one count) other (Leaf first) here one (omega (arith, few)) facts.slot (turned (Leaf first) (Place other) alike))
  have_one (suc count) (Place place) (Leaf second) there other few alike =
      let facts = has_children arena is place there in
      node_before count (have_one count) place (Leaf second) there other few facts.slot alike
  have_one (suc count) (Place place) (Place other) there here few alike =
      elim (cases_order (level_of arena (Place place)) (level_of arena (Place other))) [
        | inl level ↦ nodes_beside count (have_one count) place other there here few level alike
        | inr (inl later) ↦ node_before count (have_one count) place (Place other) there here few later alike
        | inr (inr later) ↦ sym (node_before count (have_one count) other (Place place) here there (omega (arith, few)) later (turned (Place place) (Place other) alike))
      ]

  pub one_hash : (first second : Ref) → IsRef arena first → IsRef arena second → LeadAlike first second → hash_at blocks hashes first ≡ hash_at blocks hashes second
  one_hash first second one other alike = have_one (behind first second) first second one other (omega arith) alike

-- ---- one more

before_more : (place count : ℕ) (ref : Ref) → place ≤ count → IsBefore place ref → IsBefore count ref
before_more place count (Leaf number) few before = tt
before_more place count (Place earlier) few before = omega (arith, few, before)

hash_kept : (blocks hashes : List ℕ) (x : ℕ) (ref : Ref) → IsBefore (length hashes) ref → hash_at blocks (hashes ++ x ∷ []) ref ≡ hash_at blocks hashes ref
hash_kept blocks hashes x (Leaf state) before = refl
hash_kept blocks hashes x (Place place) before = get_or_append_left hashes (x ∷ []) 0 place before

module _ (arena : ArenaValue) (is : IsReduced arena) (place : ℕ) (there : place < length arena.nodes) where
  -- what the split at the node's own slot gives are its children
  pub lo_is : (lo : Ref) → IsRef arena lo → ((letter : List Bool) → length letter ≡ arena.slots → value_of arena lo letter ≡ value_of arena (Place place) (set letter (level_of arena (Place place)) false))
      → lo ≡ lo_of arena place
  lo_is lo one means =
      let facts = has_children arena is place there in
      same_ref arena is lo (lo_of arena place) one (is_ref arena is place (lo_of arena place) there facts.lo_before) (λ letter size. means letter size ∙ sym (facts.lo_value letter size))

  pub hi_is : (hi : Ref) → IsRef arena hi → ((letter : List Bool) → length letter ≡ arena.slots → value_of arena hi letter ≡ value_of arena (Place place) (set letter (level_of arena (Place place)) true))
      → hi ≡ hi_of arena place
  hi_is hi one means =
      let facts = has_children arena is place there in
      same_ref arena is hi (hi_of arena place) one (is_ref arena is place (hi_of arena place) there facts.hi_before) (λ letter size. means letter size ∙ sym (facts.hi_value letter size))

  -- and they stand before it, so that later hashes do not matter
  node_kept : (blocks hashes : List ℕ) (x : ℕ) → place ≤ length hashes → hash_of_node arena blocks (hashes ++ x ∷ []) place ≡ hash_of_node arena blocks hashes place
  node_kept blocks hashes x few =
      let facts = has_children arena is place there in
      let lo = hash_kept blocks hashes x (lo_of arena place) (before_more place (length hashes) (lo_of arena place) few facts.lo_before) in
      let hi = hash_kept blocks hashes x (hi_of arena place) (before_more place (length hashes) (hi_of arena place) few facts.hi_before) in
      λ i. mixed (level_of arena (Place place)) (lo i) (hi i)

pub one_more_hash : (arena : ArenaValue) → IsReduced arena → (blocks hashes : List ℕ) (x : ℕ) → length hashes < length arena.nodes → AreHashes arena blocks hashes
    → x ≡ hash_of_node arena blocks hashes (length hashes) → AreHashes arena blocks (hashes ++ x ∷ [])
one_more_hash arena is blocks hashes x within are own place below = elim (cases_order place (length hashes)) [
  | inl same ↦
      get_or_push hashes x 0 place (sym same)
      ∙ own
      ∙ ap (hash_of_node arena blocks hashes) (sym same)
      ∙ sym (node_kept arena is place (omega (arith, same, within)) blocks hashes x (omega (arith, same)))
  | inr (inl before) ↦
      get_or_append_left hashes (x ∷ []) 0 place before
      ∙ are place before
      ∙ sym (node_kept arena is place (omega (arith, before, within)) blocks hashes x (omega (arith, before)))
  | inr (inr past) ↦ absurd (omega (arith, below, past, length_push hashes x))
]
