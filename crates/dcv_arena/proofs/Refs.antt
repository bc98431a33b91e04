-- One ref for one function: an arena's refs are equal where their functions are.
use Rattle.std.proofs.Common.{◌≡◌, ◌≢◌, ℕ, zero, suc, ◌+◌, ◌<◌, ◌≤◌, Bool, true, false, cond, List, length, set, replicate, inl, inr, Some, slice_get, get_or, refl, sym, ap, ◌∙◌, arith}
use Rattle.std.proofs.lemmas.Bool.{cases_order}
use Rattle.std.proofs.lemmas.List.{get_or-set_same, get_or-set_other, length-set, length-replicate}
use Rattle.std.proofs.lemmas.Option.{slice_get_within, slice_get-get_or}
use Rattle.std.specs.Option.{option_map_or}
use Rattle.dcv_arena.specs.Arena.{ArenaValue, IsReduced, IsRef, IsBefore, level_of, value_of}
use Rattle.dcv_arena.specs.declared.nodes.Ref.{Ref}
use Rattle.dcv_arena.specs.declared.nodes.Ref.TheVariants.{Leaf, Place}
use Rattle.dcv_arena.specs.declared.nodes.Node.{Node}
use Rattle.dcv_arena.proofs.Functions.{function_at-place}

-- no node, for a place that has none
abbrev pub no_node : Node
no_node = record { slot = 0; lo = Leaf 0; hi = Leaf 0 }

-- two letters have one value in each slot from this one on
abbrev pub AgreeFrom : ℕ → List Bool → List Bool → Type 0
AgreeFrom level first second = (slot : ℕ) → level ≤ slot → get_or first slot false ≡ get_or second slot false

-- changing a slot leaves the later ones
agree_after_set : (letter : List Bool) (slot : ℕ) (value : Bool) → AgreeFrom (suc slot) (set letter slot value) letter
agree_after_set letter slot value later from =
    let other : later ≢ slot = λ e. omega arith in
    get_or-set_other letter slot later value false other

-- the refs are counted by how many nodes stand up to them
abbrev pub rank : Ref → ℕ
rank (Leaf number) = 0
rank (Place place) = suc place

pub rank_before : (place : ℕ) (ref : Ref) → IsBefore place ref → rank ref ≤ place
rank_before place (Leaf number) before = omega arith
rank_before place (Place earlier) before = omega arith

module _ (arena : ArenaValue) (is : IsReduced arena) where
  pub value_of-leaf : (number : ℕ) (letter : List Bool) → value_of arena (Leaf number) letter ≡ number
  value_of-leaf number letter = refl

  pub level_of-place : (place : ℕ) (node : Node) → slice_get arena.nodes place ≡ Some node → level_of arena (Place place) ≡ node.slot
  level_of-place place node e = ap (λ found. option_map_or (λ node. node.slot) found arena.slots) e

  pub level_of-le : (ref : Ref) → IsRef arena ref → level_of arena ref ≤ arena.slots
  level_of-le (Leaf number) one = omega arith
  level_of-le (Place place) one =
      let node = get_or arena.nodes place no_node in
      let there = slice_get-get_or arena.nodes place no_node one in
      omega (arith, level_of-place place node there, (is.nodes place node there).slot)

  -- the node at a place
  pub node_there : (place : ℕ) → place < length arena.nodes → (node : Node) × (slice_get arena.nodes place ≡ Some node)
  node_there place within = (get_or arena.nodes place no_node, slice_get-get_or arena.nodes place no_node within)

  -- a node's function goes to its children's
  pub value_of-place : (place : ℕ) (node : Node) → slice_get arena.nodes place ≡ Some node → (letter : List Bool)
      → value_of arena (Place place) letter ≡ cond (get_or letter node.slot false) (value_of arena node.hi letter) (value_of arena node.lo letter)
  value_of-place place node e letter =
      let facts = is.nodes place node e in
      function_at-place arena.nodes place node e facts.lo_before facts.hi_before letter

  pub is_ref : (place : ℕ) (ref : Ref) → place < length arena.nodes → IsBefore place ref → IsRef arena ref
  is_ref place (Leaf number) within before = tt
  is_ref place (Place earlier) within before = omega arith

  -- a function does not depend on the slots before its ref's level
  ignores_within : (count level : ℕ) (ref : Ref) → IsRef arena ref → rank ref ≤ count → level ≤ level_of arena ref
      → (first second : List Bool) → AgreeFrom level first second → value_of arena ref first ≡ value_of arena ref second
  ignores_within count level (Leaf number) one h later first second same = value_of-leaf number first ∙ sym (value_of-leaf number second)
  ignores_within zero level (Place place) one h later first second same = absurd (omega arith)
  ignores_within (suc count) level (Place place) one h later first second same =
      let there = node_there place one in
      let node = there.0 in
      let facts = is.nodes place node there.1 in
      let slot = level_of-place place node there.1 in
      let lo = ignores_within count level node.lo (is_ref place node.lo one facts.lo_before) (omega (arith, rank_before place node.lo facts.lo_before)) (omega (arith, facts.lo_level)) first second same in
      let hi = ignores_within count level node.hi (is_ref place node.hi one facts.hi_before) (omega (arith, rank_before place node.hi facts.hi_before)) (omega (arith, facts.hi_level)) first second same in
      let side = same node.slot (omega arith) in
      value_of-place place node there.1 first
      ∙ (λ i. cond (side i) (hi i) (lo i))
      ∙ sym (value_of-place place node there.1 second)

  pub ignores_earlier : (level : ℕ) (ref : Ref) → IsRef arena ref → level ≤ level_of arena ref
      → (first second : List Bool) → AgreeFrom level first second → value_of arena ref first ≡ value_of arena ref second
  ignores_earlier level ref one later first second same = ignores_within (rank ref) level ref one (omega arith) later first second same

  -- the children are the function with the slot fixed
  pub value_of-lo : (place : ℕ) (node : Node) → slice_get arena.nodes place ≡ Some node → (letter : List Bool) → length letter ≡ arena.slots
      → value_of arena node.lo letter ≡ value_of arena (Place place) (set letter node.slot false)
  value_of-lo place node e letter size =
      let facts = is.nodes place node e in
      let within = slice_get_within arena.nodes place node e in
      let fixed = set letter node.slot false in
      let side = get_or-set_same letter node.slot false false (omega (arith, facts.slot)) in
      let rest = ignores_earlier (suc node.slot) node.lo (is_ref place node.lo within facts.lo_before) facts.lo_level fixed letter (agree_after_set letter node.slot false) in
      sym (value_of-place place node e fixed ∙ (λ i. cond (side i) (value_of arena node.hi fixed) (rest i)))

  pub value_of-hi : (place : ℕ) (node : Node) → slice_get arena.nodes place ≡ Some node → (letter : List Bool) → length letter ≡ arena.slots
      → value_of arena node.hi letter ≡ value_of arena (Place place) (set letter node.slot true)
  value_of-hi place node e letter size =
      let facts = is.nodes place node e in
      let within = slice_get_within arena.nodes place node e in
      let fixed = set letter node.slot true in
      let side = get_or-set_same letter node.slot true false (omega (arith, facts.slot)) in
      let rest = ignores_earlier (suc node.slot) node.hi (is_ref place node.hi within facts.hi_before) facts.hi_level fixed letter (agree_after_set letter node.slot true) in
      sym (value_of-place place node e fixed ∙ (λ i. cond (side i) (rest i) (value_of arena node.lo fixed)))

  -- a ref whose level comes later has the same function whatever the slot's value
  pub fixed_later : (ref : Ref) (slot : ℕ) → IsRef arena ref → slot < level_of arena ref → (value : Bool) (letter : List Bool) → value_of arena ref letter ≡ value_of arena ref (set letter slot value)
  fixed_later ref slot one later value letter =
      sym (ignores_earlier (suc slot) ref one later (set letter slot value) letter (agree_after_set letter slot value))

  -- two refs have one number at each letter
  abbrev pub SameFunction : Ref → Ref → Type 0
  SameFunction first second = (letter : List Bool) → length letter ≡ arena.slots → value_of arena first letter ≡ value_of arena second letter

  -- refs of so many nodes are equal where their functions are
  abbrev SameWithin : ℕ → Type 0
  SameWithin count = (first second : Ref) → IsRef arena first → IsRef arena second → rank first ≤ count → rank second ≤ count → SameFunction first second → first ≡ second

  -- a node depends on its slot, so its function is none that comes later
  depends : (count : ℕ) → SameWithin count → (place : ℕ) (node : Node) → slice_get arena.nodes place ≡ Some node → place ≤ count
      → (ref : Ref) → IsRef arena ref → node.slot < level_of arena ref → SameFunction (Place place) ref → ⊥
  depends count earlier place node e h ref one later same =
      let facts = is.nodes place node e in
      let within = slice_get_within arena.nodes place node e in
      let lo_rank = rank_before place node.lo facts.lo_before in
      let hi_rank = rank_before place node.hi facts.hi_before in
      let alike : SameFunction node.lo node.hi = λ letter size.
      let low = set letter node.slot false in
      let high = set letter node.slot true in
      let skipped = ignores_earlier (suc node.slot) ref one later low high (λ slot from. agree_after_set letter node.slot false slot from ∙ sym (agree_after_set letter node.slot true slot from)) in
      value_of-lo place node e letter size
      ∙ same low (length-set letter node.slot false ∙ size)
      ∙ skipped
      ∙ sym (same high (length-set letter node.slot true ∙ size))
      ∙ sym (value_of-hi place node e letter size) in
      facts.differ (earlier node.lo node.hi (is_ref place node.lo within facts.lo_before) (is_ref place node.hi within facts.hi_before) (omega arith) (omega arith) alike)

  -- nodes at one slot whose functions are the same have the same children, so they are one node
  same_nodes : (count : ℕ) → SameWithin count → (place other : ℕ) (node second : Node) → slice_get arena.nodes place ≡ Some node → slice_get arena.nodes other ≡ Some second
      → place ≤ count → other ≤ count → node.slot ≡ second.slot → SameFunction (Place place) (Place other) → place ≡ other
  same_nodes count earlier place other node second e e' h h' slot same =
      let facts = is.nodes place node e in
      let facts' = is.nodes other second e' in
      let within = slice_get_within arena.nodes place node e in
      let within' = slice_get_within arena.nodes other second e' in
      let lo : node.lo ≡ second.lo = earlier node.lo second.lo
      (is_ref place node.lo within facts.lo_before) (is_ref other second.lo within' facts'.lo_before)
      (omega (arith, rank_before place node.lo facts.lo_before)) (omega (arith, rank_before other second.lo facts'.lo_before))
      (λ letter size.
      value_of-lo place node e letter size
      ∙ same (set letter node.slot false) (length-set letter node.slot false ∙ size)
      ∙ (λ i. value_of arena (Place other) (set letter (slot i) false))
      ∙ sym (value_of-lo other second e' letter size)) in
      let hi : node.hi ≡ second.hi = earlier node.hi second.hi
      (is_ref place node.hi within facts.hi_before) (is_ref other second.hi within' facts'.hi_before)
      (omega (arith, rank_before place node.hi facts.hi_before)) (omega (arith, rank_before other second.hi facts'.hi_before))
      (λ letter size.
      value_of-hi place node e letter size
      ∙ same (set letter node.slot true) (length-set letter node.slot true ∙ size)
      ∙ (λ i. value_of arena (Place other) (set letter (slot i) true))
      ∙ sym (value_of-hi other second e' letter size)) in
      let one : node ≡ second = λ i. record { slot = slot i; lo = lo i; hi = hi i } in
      is.once place other node e (e' ∙ ap Some (sym one))

  same_within : (count : ℕ) → SameWithin count
  same_within count (Leaf first) (Leaf second) one one' h h' same =
      let letter = replicate arena.slots false in
      ap Leaf (sym (value_of-leaf first letter) ∙ same letter (length-replicate arena.slots false) ∙ value_of-leaf second letter)
  same_within zero (Leaf first) (Place other) one one' h h' same = absurd (omega arith)
  same_within zero (Place place) second one one' h h' same = absurd (omega arith)
  same_within (suc count) (Leaf first) (Place other) one one' h h' same =
      let there = node_there other one' in
      let facts = is.nodes other there.0 there.1 in
      absurd (depends count (same_within count) other there.0 there.1 (omega arith) (Leaf first) tt facts.slot (λ letter size. sym (same letter size)))
  same_within (suc count) (Place place) (Leaf second) one one' h h' same =
      let there = node_there place one in
      let facts = is.nodes place there.0 there.1 in
      absurd (depends count (same_within count) place there.0 there.1 (omega arith) (Leaf second) tt facts.slot same)
  same_within (suc count) (Place place) (Place other) one one' h h' same =
      let there = node_there place one in
      let there' = node_there other one' in
      let level = level_of-place place there.0 there.1 in
      let level' = level_of-place other there'.0 there'.1 in
      elim (cases_order there.0.slot there'.0.slot) [
        | inl equal ↦ ap Place (same_nodes count (same_within count) place other there.0 there'.0 there.1 there'.1 (omega arith) (omega arith) equal same)
        | inr (inl before) ↦ absurd (depends count (same_within count) place there.0 there.1 (omega arith) (Place other) one' (omega arith) same)
        | inr (inr after) ↦ absurd (depends count (same_within count) other there'.0 there'.1 (omega arith) (Place place) one (omega arith) (λ letter size. sym (same letter size)))
      ]

  pub same_ref : (first second : Ref) → IsRef arena first → IsRef arena second → SameFunction first second → first ≡ second
  same_ref first second one one' same =
      same_within (rank first + rank second) first second one one' (omega arith) (omega arith) same

  -- a node's function depends on the node's slot
  pub own_slot_matters : (ref : Ref) → IsRef arena ref → level_of arena ref < arena.slots
      → ((letter : List Bool) → length letter ≡ arena.slots → value_of arena ref (set letter (level_of arena ref) false) ≡ value_of arena ref (set letter (level_of arena ref) true)) → ⊥
  own_slot_matters (Leaf number) one inner same = omega arith
  own_slot_matters (Place place) one inner same =
      let there = node_there place one in
      let node = there.0 in
      let facts = is.nodes place node there.1 in
      let level = level_of-place place node there.1 in
      let alike : SameFunction node.lo node.hi = λ letter size.
      value_of-lo place node there.1 letter size
      ∙ (λ i. value_of arena (Place place) (set letter (sym level i) false))
      ∙ same letter size
      ∙ (λ i. value_of arena (Place place) (set letter (level i) true))
      ∙ sym (value_of-hi place node there.1 letter size) in
      facts.differ (same_ref node.lo node.hi (is_ref place node.lo one facts.lo_before) (is_ref place node.hi one facts.hi_before) alike)
