-- The nodes of an arena are those of the diagram of its refs' functions.
use Rattle.std.proofs.Common.{◌≡◌, ℕ, zero, suc, ◌+◌, ◌-◌, ◌<◌, ◌≤◌, Bool, true, false, cond, List, [], ◌∷◌, ◌++◌, length, map, take, drop, set, replicate, inl, inr, Some, slice_get, get_or, refl, sym, ap, ◌∙◌, arith}
use Rattle.std.proofs.lemmas.Bool.{cases_order, cases_lt}
use Rattle.std.proofs.lemmas.List.{length-append, length-drop, length-set, length-replicate, take-append-drop, length-take-le, get_or-append_right, get_or_append_left, set_split, set-append_left}
use Rattle.std.proofs.lemmas.Option.{slice_get_within}
use Rattle.dcv_word.specs.Letter.{bits_of, letters_of_width}
use Rattle.dcv_arena.specs.Arena.{ArenaValue, IsReduced, IsRef, level_of, value_of, table_of, node_at, IncludesNodesOf}
use Rattle.dcv_arena.specs.Diagram.{block}
use Rattle.dcv_arena.specs.declared.nodes.Ref.{Ref}
use Rattle.dcv_arena.specs.declared.nodes.Ref.TheVariants.{Leaf, Place}
use Rattle.dcv_arena.specs.declared.nodes.Node.{Node}
use Rattle.dcv_arena.proofs.Tables.{same_table, same_values}
use Rattle.dcv_arena.proofs.Refs.{AgreeFrom, rank, rank_before, is_ref, node_there, level_of-place, value_of-place, value_of-lo, value_of-hi, ignores_earlier, same_ref, SameFunction}
use Rattle.dcv_arena.proofs.Blocks.{IsNodeOf, part_of, block-part, nodes_of-from, nodes_of-is}

-- fronts that are as long leave the slots after them as they are
pub agree_behind : (front other back : List Bool) → length front ≡ length other → AgreeFrom (length front) (front ++ back) (other ++ back)
agree_behind front other back same slot from =
    get_or-append_right front back (length front) slot false refl from
    ∙ sym (get_or-append_right other back (length front) slot false (sym same) from)

-- the value in the slot after a front does not matter further on
agree_past : (front : List Bool) (a b : Bool) (back : List Bool) → AgreeFrom (suc (length front)) (front ++ a ∷ back) (front ++ b ∷ back)
agree_past [] a b back zero from = absurd (omega arith)
agree_past [] a b back (suc slot) from = refl
agree_past (value ∷ front) a b back zero from = absurd (omega arith)
agree_past (value ∷ front) a b back (suc slot) from = agree_past front a b back slot (omega arith)

-- a function with the same numbers after a front that is as long has the node too
pub with_front : {slots : ℕ} (g f : List Bool → ℕ) (node : ℕ × List ℕ) (split : IsNodeOf slots g node) (front : List Bool) → length front ≡ length split.front
    → ((values : List Bool) → length split.front + length values ≡ slots → g (split.front ++ values) ≡ f (front ++ values))
    → IsNodeOf slots f node
with_front g f node split front size behind =
    let old = split.front in
    let rest = split.rest in
    record {
      front = front;
      rest = rest;
      level = size ∙ split.level;
      size = ap (λ n. n + suc rest) size ∙ split.size;
      numbers = split.numbers ∙ same_table (suc rest) (λ values. g (old ++ values)) (λ values. f (front ++ values)) (λ values whole. behind values (omega (arith, split.size)));
      differ = λ alike. split.differ
          (same_table rest (λ values. g (old ++ false ∷ values)) (λ values. f (front ++ false ∷ values)) (λ values whole. behind (false ∷ values) (omega (arith, split.size)))
          ∙ alike
          ∙ sym (same_table rest (λ values. g (old ++ true ∷ values)) (λ values. f (front ++ true ∷ values)) (λ values whole. behind (true ∷ values) (omega (arith, split.size)))));
    }

-- a front with false in each slot
abbrev blank : ℕ → List Bool
blank level = replicate level false

bits_of-blank : (level : ℕ) → bits_of (blank level) ≡ 0
bits_of-blank zero = refl
bits_of-blank (suc level) = omega (arith, bits_of-blank level)

module _ (arena : ArenaValue) (is : IsReduced arena) where
  -- the block of a node's slot has the numbers of the letters after any front
  pub node_block : (place level : ℕ) → IsRef arena (Place place) → level_of arena (Place place) ≡ level → level ≤ arena.slots
      → (front : List Bool) → length front ≡ level
      → (node_at arena place).1 ≡ part_of (value_of arena (Place place)) front (arena.slots - level)
  unfolding table_of
  node_block place level one at within front size =
      let f = value_of arena (Place place) in
      let rest = arena.slots - level in
      let plain : length (blank level) ≡ level = length-replicate level false in
      (λ i. block arena.slots (table_of arena (Place place)) (at i) 0)
      ∙ (λ i. block arena.slots (table_of arena (Place place)) (sym plain i) (sym (bits_of-blank level) i))
      ∙ block-part (blank level) rest arena.slots f (omega arith)
      ∙ (λ i. map (λ values. ignores_earlier arena is level (Place place) one (omega arith) (blank level ++ values) (front ++ values)
      (λ slot from. agree_behind (blank level) front values (plain ∙ sym size) slot (omega arith)) i) (letters_of_width rest))

  -- ---- a node of the arena is a node of its function

  -- the child at a value of the node's slot is the function after a front, where the slot has that value
  child_behind : (place : ℕ) (node : Node) → slice_get arena.nodes place ≡ Some node → (front : List Bool) → length front ≡ node.slot
      → (value : Bool) (letter : List Bool) → length letter ≡ arena.slots
      → value_of arena (Place place) (set letter node.slot value) ≡ value_of arena (Place place) (front ++ value ∷ drop (suc node.slot) letter)
  child_behind place node e front size value letter whole =
      let facts = is.nodes place node e in
      let inside : node.slot < length letter = omega (arith, facts.slot) in
      let back = value ∷ drop (suc node.slot) letter in
      let before : length (take node.slot letter) ≡ node.slot = length-take-le node.slot letter (omega arith) in
      ap (value_of arena (Place place)) (set_split letter node.slot value inside)
      ∙ ignores_earlier arena is node.slot (Place place) (slice_get_within arena.nodes place node e) (omega (arith, level_of-place arena is place node e)) (take node.slot letter ++ back) (front ++ back)
      (λ slot from. agree_behind (take node.slot letter) front back (before ∙ sym size) slot (omega arith))

  pub own_node : (place : ℕ) → IsRef arena (Place place) → IsNodeOf arena.slots (value_of arena (Place place)) (node_at arena place)
  own_node place one =
      let there = node_there arena is place one in
      let node = there.0 in
      let e = there.1 in
      let facts = is.nodes place node e in
      let slot = node.slot in
      let level = level_of-place arena is place node e in
      let f = value_of arena (Place place) in
      let front = blank slot in
      let size : length front ≡ slot = length-replicate slot false in
      let rest = arena.slots - slot - 1 in
      let after : arena.slots - slot ≡ suc rest = omega (arith, facts.slot) in
      record {
        front = front;
        rest = rest;
        level = size ∙ sym level;
        size = omega (arith, facts.slot);
        numbers = node_block place slot one level (omega (arith, facts.slot)) front size ∙ ap (part_of f front) after;
        differ = λ same.
            let behind = same_values rest (λ values. f (front ++ false ∷ values)) (λ values. f (front ++ true ∷ values)) same in
            let alike : SameFunction arena is node.lo node.hi = λ letter whole.
            let back = drop (suc slot) letter in
            let back_size : length back ≡ rest = omega (arith, length-drop (suc slot) letter, facts.slot) in
            value_of-lo arena is place node e letter whole
            ∙ child_behind place node e front size false letter whole
            ∙ behind back back_size
            ∙ sym (child_behind place node e front size true letter whole)
            ∙ sym (value_of-hi arena is place node e letter whole) in
            facts.differ (same_ref arena is node.lo node.hi (is_ref arena is place node.lo one facts.lo_before) (is_ref arena is place node.hi one facts.hi_before) alike);
      }

  -- ---- a node of a ref's function is a node of the arena

  -- what comes before its level splits no function
  pub no_earlier : (ref : Ref) → IsRef arena ref → (node : ℕ × List ℕ) → IsNodeOf arena.slots (value_of arena ref) node → node.0 < level_of arena ref → ⊥
  no_earlier ref one node split before =
      split.differ (λ i. map (λ values. ignores_earlier arena is (suc (length split.front)) ref one (omega (arith, split.level)) (split.front ++ false ∷ values) (split.front ++ true ∷ values)
      (agree_past split.front false true values) i) (letters_of_width split.rest))

  abbrev IsListed : ℕ × List ℕ → Type 0
  IsListed node = (place : ℕ) × (place < length arena.nodes) × (node_at arena place ≡ node)

  listed_within : (count : ℕ) (ref : Ref) → IsRef arena ref → rank ref ≤ count → (found : ℕ × List ℕ) → IsNodeOf arena.slots (value_of arena ref) found → IsListed found
  listed_within count (Leaf number) one h found split = absurd (no_earlier (Leaf number) tt found split (omega (arith, split.level, split.size)))
  listed_within zero (Place place) one h found split = absurd (omega arith)
  listed_within (suc count) (Place place) one h found split =
      let there = node_there arena is place one in
      let node = there.0 in
      let e = there.1 in
      let facts = is.nodes place node e in
      let level = level_of-place arena is place node e in
      let f = value_of arena (Place place) in
      let front = split.front in
      elim (cases_order node.slot found.0) [
        | inl at ↦
            let after : arena.slots - node.slot ≡ suc split.rest = omega (arith, split.level, split.size) in
            let numbers = node_block place node.slot one level (omega (arith, facts.slot)) front (split.level ∙ sym at) ∙ ap (part_of f front) after ∙ sym split.numbers in
            (place, one, λ i. ((level ∙ at) i, numbers i))
        | inr (inl before) ↦
            let inside : node.slot < length front = omega (arith, split.level) in
            let goes : (side : Bool) → get_or front node.slot false ≡ side → (values : List Bool) → f (front ++ values) ≡ cond side (value_of arena node.hi (front ++ values)) (value_of arena node.lo (front ++ values)) = λ side at values.
            value_of-place arena is place node e (front ++ values)
            ∙ ap (λ b. cond b (value_of arena node.hi (front ++ values)) (value_of arena node.lo (front ++ values))) (get_or_append_left front values false node.slot inside ∙ at) in
            let by : (side : Bool) → get_or front node.slot false ≡ side → IsListed found = elim [
              | true ↦ λ at. listed_within count node.hi (is_ref arena is place node.hi one facts.hi_before) (omega (arith, rank_before place node.hi facts.hi_before)) found
                  (with_front f (value_of arena node.hi) found split front refl (λ values whole. goes true at values))
              | false ↦ λ at. listed_within count node.lo (is_ref arena is place node.lo one facts.lo_before) (omega (arith, rank_before place node.lo facts.lo_before)) found
                  (with_front f (value_of arena node.lo) found split front refl (λ values whole. goes false at values))
            ] in
            by (get_or front node.slot false) refl
        | inr (inr after) ↦ absurd (no_earlier (Place place) one found split (omega arith))
      ]

  pub listed : (ref : Ref) → IsRef arena ref → (found : ℕ × List ℕ) → IsNodeOf arena.slots (value_of arena ref) found → IsListed found
  listed ref one found split = listed_within (rank ref) ref one (omega arith) found split

  -- ---- two places are two nodes of the diagram

  pub node_at-apart : (first second : ℕ) → IsRef arena (Place first) → IsRef arena (Place second) → node_at arena first ≡ node_at arena second → first ≡ second
  node_at-apart first second one one' same =
      let there = node_there arena is first one in
      let there' = node_there arena is second one' in
      let slot = there.0.slot in
      let level = level_of-place arena is first there.0 there.1 in
      let level' : level_of arena (Place second) ≡ slot = sym (ap (λ pair. pair.0) same) ∙ level in
      let within : slot ≤ arena.slots = omega (arith, (is.nodes first there.0 there.1).slot) in
      let front = blank slot in
      let size : length front ≡ slot = length-replicate slot false in
      let f = value_of arena (Place first) in
      let g = value_of arena (Place second) in
      let parts : part_of f front (arena.slots - slot) ≡ part_of g front (arena.slots - slot) =
      sym (node_block first slot one level within front size) ∙ ap (λ pair. pair.1) same ∙ node_block second slot one' level' within front size in
      let behind = same_values (arena.slots - slot) (λ values. f (front ++ values)) (λ values. g (front ++ values)) parts in
      let alike : SameFunction arena is (Place first) (Place second) = λ letter whole.
      let before = take slot letter in
      let back = drop slot letter in
      let before_size : length before ≡ slot = length-take-le slot letter (omega arith) in
      let joined : before ++ back ≡ letter = take-append-drop slot letter in
      let swapped : (slot' : ℕ) → slot ≤ slot' → get_or (before ++ back) slot' false ≡ get_or (front ++ back) slot' false =
      λ later from. agree_behind before front back (before_size ∙ sym size) later (omega arith) in
      ap f (sym joined)
      ∙ ignores_earlier arena is slot (Place first) one (omega arith) (before ++ back) (front ++ back) swapped
      ∙ behind back (omega (arith, length-drop slot letter))
      ∙ sym (ignores_earlier arena is slot (Place second) one' (omega arith) (before ++ back) (front ++ back) swapped)
      ∙ ap g joined in
      let one_ref : Place first ≡ Place second = same_ref arena is (Place first) (Place second) one one' alike in
      cc

  -- ---- the nodes of a function with a slot fixed are nodes of the function

  fixed : (slot : ℕ) (value : Bool) (part root : Ref) → IsRef arena part → slot < level_of arena part
      → ((letter : List Bool) → length letter ≡ arena.slots → value_of arena part letter ≡ value_of arena root (set letter slot value))
      → (node : ℕ × List ℕ) → IsNodeOf arena.slots (value_of arena part) node → IsNodeOf arena.slots (value_of arena root) node
  fixed slot value part root one later same node split =
      let front = split.front in
      let f = value_of arena root in
      let g = value_of arena part in
      let inside : slot < length front = elim (cases_lt slot (length front)) [
        | inl inside ↦ inside
        | inr past ↦ absurd (no_earlier part one node split (omega (arith, split.level)))
      ] in
      with_front g f node split (set front slot value) (length-set front slot value) (λ values whole.
      same (front ++ values) (length-append front values ∙ whole) ∙ ap f (set-append_left front values slot value inside))

  pub includes_fixed : (slot : ℕ) (value : Bool) (part root : Ref) → IsRef arena part → slot < level_of arena part
      → ((letter : List Bool) → length letter ≡ arena.slots → value_of arena part letter ≡ value_of arena root (set letter slot value))
      → IncludesNodesOf arena part arena root
  unfolding table_of
  includes_fixed slot value part root one later same node c =
      nodes_of-from arena.slots (value_of arena root) node
      (fixed slot value part root one later same node (nodes_of-is arena.slots (value_of arena part) node c))
