-- The places that get numbers are those of the nodes of the rows, so there are as many as these.
use Rattle.std.proofs.Common.{◌≡◌, ◌≢◌, ℕ, zero, suc, ◌-◌, ◌<◌, ◌≤◌, Bool, true, false, cond, List, ◌++◌, length, map, get_or, Contains, inl, inr, refl, sym, ap, subst, ◌∙◌, arith}
use Rattle.std.specs.Bool.{one_answer}
use Rattle.std.specs.Cmp.{unsigned_Decides}
use Rattle.std.specs.List.{All, AllPairs}
use Rattle.std.specs.Set.{is_member}
use Rattle.std.proofs.lemmas.Bool.{cases_order}
use Rattle.std.proofs.lemmas.List.{length-map, get_or-map, get_or_append_left}
use Rattle.std.proofs.lemmas.List.Elements.{All-contains}
use Rattle.std.proofs.lemmas.Map.Made.{length-from_keys, is_member-Decides, IsDistinct-from_AllPairs}
use Rattle.std.proofs.lemmas.Map.Steps.{length-le_from_distinct_below}
use Rattle.dcv_arena.specs.Arena.{ArenaValue, IsReduced, IsRef, level_of, value_of, table_of, node_at, diagram_nodes, HasOnlyNodesOf}
use Rattle.dcv_arena.specs.Diagram.{nodes_of, nodes_of_all, is_same_node, node_count}
use Rattle.dcv_arena.specs.declared.nodes.Ref.{Ref}
use Rattle.dcv_arena.specs.declared.nodes.Ref.TheVariants.{Leaf, Place}
use Rattle.dcv_arena.proofs.Blocks.{IsNodeOf, part_of, nodes_of-is}
use Rattle.dcv_arena.proofs.Counts.{diagram_nodes-from}
use Rattle.dcv_arena.proofs.Fewer.{same_node, node_laws}
use Rattle.dcv_arena.proofs.Listed.{no_earlier, node_at-apart, node_block, with_front}
use Rattle.dcv_arena.proofs.Members.{Contains-map, Contains-map_cases, Contains-flat_map_cases}
use Rattle.dcv_arena.proofs.Refs.{rank, rank_before, is_ref}
use Rattle.dcv_dfa.specs.NodeLines.{lo_of, hi_of}
use Rattle.dcv_dfa.proofs.Visits.{has_children}
use Rattle.dcv_dfa.proofs.Numberings.{HasNumber, IsNumbering, has_child, numbered_there}

-- ---- how many there are

module _ (arena : ArenaValue) (is : IsReduced arena) (places : List ℕ) (numbering : IsNumbering arena places) where
  -- a node of the diagram that has a number
  abbrev HasPlace : ℕ × List ℕ → Type 0
  HasPlace node = (place : ℕ) × Contains places place × (node_at arena place ≡ node)

  -- the nodes of a ref that has a number have numbers
  placed_within : (count : ℕ) (ref : Ref) → IsRef arena ref → HasNumber places ref → rank ref ≤ count → (found : ℕ × List ℕ) → IsNodeOf arena.slots (value_of arena ref) found → HasPlace found
  placed_within count (Leaf number) one has h found split = absurd (no_earlier arena is (Leaf number) tt found split (omega (arith, split.level, split.size)))
  placed_within zero (Place place) one has h found split = absurd (omega arith)
  placed_within (suc count) (Place place) one has h found split =
      let facts = has_children arena is place one in
      let lo = lo_of arena place in
      let hi = hi_of arena place in
      let level = level_of arena (Place place) in
      let f = value_of arena (Place place) in
      let front = split.front in
      let children = has_child arena places numbering place has in
      elim (cases_order level found.0) [
        | inl at ↦
            let after : arena.slots - level ≡ suc split.rest = omega (arith, split.level, split.size) in
            let numbers = node_block arena is place level one refl (omega (arith, facts.slot)) front (split.level ∙ sym at) ∙ ap (part_of f front) after ∙ sym split.numbers in
            (place, has, λ i. (at i, numbers i))
        | inr (inl before) ↦
            let inside : level < length front = omega (arith, split.level) in
            let goes : (side : Bool) → get_or front level false ≡ side → (values : List Bool) → f (front ++ values) ≡ cond side (value_of arena hi (front ++ values)) (value_of arena lo (front ++ values)) = λ side at values.
            facts.value (front ++ values)
            ∙ ap (λ b. cond b (value_of arena hi (front ++ values)) (value_of arena lo (front ++ values))) (get_or_append_left front values false level inside ∙ at) in
            let by : (side : Bool) → get_or front level false ≡ side → HasPlace found = elim [
              | true ↦ λ at. placed_within count hi (is_ref arena is place hi one facts.hi_before) children.1 (omega (arith, rank_before place hi facts.hi_before)) found
                  (with_front f (value_of arena hi) found split front refl (λ values whole. goes true at values))
              | false ↦ λ at. placed_within count lo (is_ref arena is place lo one facts.lo_before) children.0 (omega (arith, rank_before place lo facts.lo_before)) found
                  (with_front f (value_of arena lo) found split front refl (λ values whole. goes false at values))
            ] in
            by (get_or front level false) refl
        | inr (inr after) ↦ absurd (no_earlier arena is (Place place) one found split (omega arith))
      ]

  placed : (ref : Ref) → IsRef arena ref → HasNumber places ref → (node : ℕ × List ℕ) → Contains (nodes_of arena.slots (table_of arena ref)) node → HasPlace node
  unfolding table_of
  placed ref one has node there = placed_within (rank ref) ref one has (omega arith) node (nodes_of-is arena.slots (value_of arena ref) node there)

  placed_of : (ref : Ref) (table : List ℕ) → IsRef arena ref → HasNumber places ref → table_of arena ref ≡ table → (node : ℕ × List ℕ) → Contains (nodes_of arena.slots table) node → HasPlace node
  placed_of ref table one has same node there = placed ref one has node (subst (λ table. Contains (nodes_of arena.slots table) node) (sym same) there)

  -- two places are two nodes
  nodes_apart : AllPairs (λ a b. a ≢ b) (map (node_at arena) places)
  nodes_apart i j d before within same =
      let count = length-map places (node_at arena) in
      let later : j < length places = omega (arith, count) in
      let first = get_or-map (node_at arena) places i 0 d (omega arith) in
      let second = get_or-map (node_at arena) places j 0 d later in
      numbering.once i j 0 before later
      (node_at-apart arena is (get_or places i 0) (get_or places j 0) (numbering.within i 0 (omega arith)) (numbering.within j 0 later) (sym first ∙ same ∙ second))

  -- as many places as nodes of the rows
  pub count_numbered : (rows : List Ref) → All (IsRef arena) rows → All (HasNumber places) rows → HasOnlyNodesOf arena rows
      → length places ≡ node_count arena.slots (map (table_of arena) rows)
  count_numbered rows ones has only =
      sym (length-map places (node_at arena))
      ∙ length-from_keys node_laws (map (node_at arena) places) (nodes_of_all arena.slots (map (table_of arena) rows))
      (IsDistinct-from_AllPairs same_node (map (node_at arena) places) nodes_apart)
      (λ q. one_answer (is_member is_same_node (map (node_at arena) places) q) (is_member is_same_node (nodes_of_all arena.slots (map (table_of arena) rows)) q)
      (is_member-Decides same_node (map (node_at arena) places) q) (
        λ t. back q ((is_member-Decides same_node (nodes_of_all arena.slots (map (table_of arena) rows)) q).0 t),
        λ c. (is_member-Decides same_node (nodes_of_all arena.slots (map (table_of arena) rows)) q).1 (there q c),
      ))
    where
      there : (q : ℕ × List ℕ) → Contains (map (node_at arena) places) q → Contains (nodes_of_all arena.slots (map (table_of arena) rows)) q
      there q c =
          let found = Contains-map_cases (node_at arena) places q c in
          only q (subst (Contains (diagram_nodes arena)) found.2
          (diagram_nodes-from arena found.0 (All-contains (λ place. place < length arena.nodes) places found.0 numbering.within found.1)))

      back : (q : ℕ × List ℕ) → Contains (nodes_of_all arena.slots (map (table_of arena) rows)) q → Contains (map (node_at arena) places) q
      back q c =
          let by_table = Contains-flat_map_cases (nodes_of arena.slots) (map (table_of arena) rows) q c in
          let by_ref = Contains-map_cases (table_of arena) rows by_table.0 by_table.1 in
          let at = placed_of by_ref.0 by_table.0 (All-contains (IsRef arena) rows by_ref.0 ones by_ref.1) (All-contains (HasNumber places) rows by_ref.0 has by_ref.1) by_ref.2 q by_table.2 in
          subst (Contains (map (node_at arena) places)) at.2 (Contains-map (node_at arena) places at.0 at.1)

  -- and no more than the arena has
  pub few_numbered : length places ≤ length arena.nodes
  few_numbered =
      length-le_from_distinct_below places (length arena.nodes) (IsDistinct-from_AllPairs unsigned_Decides places numbering.once)
      (λ q there. All-contains (λ place. place < length arena.nodes) places q numbering.within (numbered_there places q there))
