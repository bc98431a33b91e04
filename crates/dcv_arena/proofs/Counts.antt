-- How many nodes an arena has.
use Rattle.std.proofs.Common.{◌≡◌, ◌≢◌, ℕ, ◌<◌, ◌≤◌, List, length, map, Contains, sym, subst, ◌∙◌, arith}
use Rattle.std.specs.Bool.{one_answer}
use Rattle.std.specs.List.{All, AllPairs, range_with_len}
use Rattle.std.specs.Set.{is_member}
use Rattle.std.proofs.lemmas.List.Elements.{All-contains, All-contains_itself, All-map, All-weaker}
use Rattle.std.proofs.lemmas.List.FromFn.{length-map-range_with_len, get_or-map-range_with_len}
use Rattle.std.proofs.lemmas.Map.Made.{length-from_keys, is_member-Decides, IsDistinct-from_AllPairs}
use Rattle.dcv_arena.specs.Arena.{ArenaValue, IsReduced, IsRef, value_of, table_of, node_at, places, diagram_nodes, HasOnlyNodesOf}
use Rattle.dcv_arena.specs.Diagram.{nodes_of, nodes_of_all, is_same_node, node_count}
use Rattle.dcv_arena.specs.declared.nodes.Ref.{Ref}
use Rattle.dcv_arena.specs.declared.nodes.Ref.TheVariants.{Place}
use Rattle.dcv_arena.proofs.Members.{Contains-map, Contains-map_cases, Contains-flat_map, Contains-flat_map_cases, Contains-range, Contains-range_cases}
use Rattle.dcv_arena.proofs.Fewer.{same_node, node_laws, fewer_nodes}
use Rattle.dcv_arena.proofs.Blocks.{nodes_of-from, nodes_of-is}
use Rattle.dcv_arena.proofs.Listed.{own_node, listed, node_at-apart}

-- two lists with the same elements, as tests
same_members : (xs ys : List (ℕ × List ℕ)) (q : ℕ × List ℕ) → (Contains xs q → Contains ys q) → (Contains ys q → Contains xs q) → is_member is_same_node xs q ≡ is_member is_same_node ys q
same_members xs ys q there back =
    let in_ys = is_member-Decides same_node ys q in
    one_answer (is_member is_same_node xs q) (is_member is_same_node ys q) (is_member-Decides same_node xs q) (λ t. back (in_ys.0 t), λ c. in_ys.1 (there c))

module _ (arena : ArenaValue) where
  pub length-diagram_nodes : length (diagram_nodes arena) ≡ length arena.nodes
  unfolding diagram_nodes
  length-diagram_nodes = length-map-range_with_len (node_at arena) 0 (length arena.nodes)

  pub diagram_nodes-is : (node : ℕ × List ℕ) → Contains (diagram_nodes arena) node → (place : ℕ) × (place < length arena.nodes) × (node_at arena place ≡ node)
  unfolding diagram_nodes
  diagram_nodes-is node c =
      let found = Contains-map_cases (node_at arena) (range_with_len 0 (length arena.nodes)) node c in
      (found.0, Contains-range_cases (length arena.nodes) found.0 found.1, found.2)

  pub diagram_nodes-from : (place : ℕ) → place < length arena.nodes → Contains (diagram_nodes arena) (node_at arena place)
  unfolding diagram_nodes
  diagram_nodes-from place within = Contains-map (node_at arena) (range_with_len 0 (length arena.nodes)) place (Contains-range (length arena.nodes) place within)

module _ (arena : ArenaValue) (is : IsReduced arena) where
  -- a node of a ref's function is one of the arena's
  pub listed_in_diagram : (ref : Ref) → IsRef arena ref → (node : ℕ × List ℕ) → Contains (nodes_of arena.slots (table_of arena ref)) node → Contains (diagram_nodes arena) node
  unfolding table_of
  listed_in_diagram ref one node c =
      let at = listed arena is ref one node (nodes_of-is arena.slots (value_of arena ref) node c) in
      subst (Contains (diagram_nodes arena)) at.2 (diagram_nodes-from arena at.0 at.1)

  -- and a node of the arena is one of its own function
  pub own_in_diagram : (place : ℕ) → place < length arena.nodes → Contains (nodes_of arena.slots (table_of arena (Place place))) (node_at arena place)
  unfolding table_of
  own_in_diagram place within = nodes_of-from arena.slots (value_of arena (Place place)) (node_at arena place) (own_node arena is place within)

  pub apart : AllPairs (λ a b. a ≢ b) (diagram_nodes arena)
  unfolding diagram_nodes
  apart i j d before within same =
      let count = length arena.nodes in
      let inside : j < count = omega (arith, length-map-range_with_len (node_at arena) 0 count) in
      let first = get_or-map-range_with_len (node_at arena) 0 count i i d (omega arith) (omega arith) in
      let second = get_or-map-range_with_len (node_at arena) 0 count j j d inside (omega arith) in
      let one = node_at-apart arena is i j (omega arith) inside (sym first ∙ same ∙ second) in
      omega arith

  -- the nodes of these refs' functions
  abbrev pub of_roots : List Ref → List (ℕ × List ℕ)
  of_roots roots = nodes_of_all arena.slots (map (table_of arena) roots)

  pub of_roots-listed : (roots : List Ref) → All (IsRef arena) roots → (node : ℕ × List ℕ) → Contains (of_roots roots) node → Contains (diagram_nodes arena) node
  of_roots-listed roots all node c =
      let by_table = Contains-flat_map_cases (nodes_of arena.slots) (map (table_of arena) roots) node c in
      let by_ref = Contains-map_cases (table_of arena) roots by_table.0 by_table.1 in
      listed_in_diagram by_ref.0 (All-contains (IsRef arena) roots by_ref.0 all by_ref.1) node
      (subst (λ table. Contains (nodes_of arena.slots table) node) (sym by_ref.2) by_table.2)

  pub count_exact : (roots : List Ref) → All (IsRef arena) roots → HasOnlyNodesOf arena roots → length arena.nodes ≡ node_count arena.slots (map (table_of arena) roots)
  count_exact roots all only =
      sym (length-diagram_nodes arena)
      ∙ length-from_keys node_laws (diagram_nodes arena) (of_roots roots) (IsDistinct-from_AllPairs same_node (diagram_nodes arena) apart)
      (λ q. same_members (diagram_nodes arena) (of_roots roots) q (only q) (of_roots-listed roots all q))

  -- each node is one of its own place's function
  pub only_own : HasOnlyNodesOf arena (places arena)
  only_own node c =
      let at = diagram_nodes-is arena node c in
      let own = subst (Contains (nodes_of arena.slots (table_of arena (Place at.0)))) at.2 (own_in_diagram at.0 at.1) in
      let there = Contains-map Place (range_with_len 0 (length arena.nodes)) at.0 (Contains-range (length arena.nodes) at.0 at.1) in
      Contains-flat_map (nodes_of arena.slots) (map (table_of arena) (places arena)) (table_of arena (Place at.0)) node (Contains-map (table_of arena) (places arena) (Place at.0) there) own

  pub places_are_refs : All (IsRef arena) (places arena)
  places_are_refs =
      All-map (IsRef arena) Place (range_with_len 0 (length arena.nodes))
      (All-weaker (Contains (range_with_len 0 (length arena.nodes))) (λ place. place < length arena.nodes) (λ place c. Contains-range_cases (length arena.nodes) place c)
      (range_with_len 0 (length arena.nodes)) (All-contains_itself (range_with_len 0 (length arena.nodes))))

  pub count_all : length arena.nodes ≡ node_count arena.slots (map (table_of arena) (places arena))
  count_all = count_exact (places arena) places_are_refs only_own

  -- some of the functions have no more nodes than all of them
  pub count_least : (roots : List Ref) → All (IsRef arena) roots → node_count arena.slots (map (table_of arena) roots) ≤ length arena.nodes
  count_least roots all =
      let among = fewer_nodes arena.slots (map (table_of arena) roots) (map (table_of arena) (places arena)) (λ node c. only_own node (of_roots-listed roots all node c)) in
      omega (arith, among, count_all)
