-- Functions with new numbers have no more nodes than the functions had, so an arena of their own has room for all of them.
use Rattle.std.proofs.Common.{◌≡◌, ℕ, ◌≤◌, Bool, List, [], ◌∷◌, ◌++◌, length, map, get_or, Contains, zero, suc, inl, inr, refl, sym, ap, subst, ◌∙◌, arith}
use Rattle.std.specs.List.{All, range_with_len}
use Rattle.std.proofs.lemmas.List.Elements.{Contains-append_left, Contains-append_right, Contains-append_cases, All-cons, All-contains}
use Rattle.std.proofs.lemmas.Option.{slice_get_within}
use Rattle.dcv_arena.specs.Arena.{ArenaValue, IsArena, IsRef, value_of, table_of, places, KeepsRefs, AddsOnlyNodesOfFunction, count_with}
use Rattle.dcv_arena.specs.Diagram.{as_table, nodes_of, nodes_of_all, node_count}
use Rattle.dcv_arena.specs.declared.nodes.Ref.{Ref}
use Rattle.dcv_arena.specs.declared.nodes.Ref.TheVariants.{Leaf, Place}
use Rattle.dcv_arena.proofs.Counts.{diagram_nodes-is, listed_in_diagram, places_are_refs, count_least}
use Rattle.dcv_arena.proofs.Fewer.{fewer_nodes}
use Rattle.dcv_arena.proofs.Members.{Contains-map, Contains-map_cases, Contains-flat_map, Contains-flat_map_cases, Contains-range}
use Rattle.dcv_arena.proofs.Renumbered.{renumbered_no_more}
use Rattle.dcv_renumber.specs.Renumbered.{RemappingValue, renumbered, HoldsNew}
use Rattle.dcv_renumber.specs.Own.{RenumberingValue, IsRenumbering, new_nodes, seen_as}

-- a number at every letter is a function without nodes
no_nodes : (slots number : ℕ) (node : ℕ × List ℕ) → Contains (nodes_of slots (as_table slots (λ letter. number))) node → ⊥
unfolding table_of
no_nodes slots number node there =
    let none : ArenaValue = record { slots = slots; limit = 0; nodes = [] } in
    let listed = listed_in_diagram none
    (record {
      nodes = λ place node at. absurd (omega (arith, slice_get_within [] place node at));
      once = λ first second node at other. absurd (omega (arith, slice_get_within [] first node at));
    })
    (Leaf number) tt node there in
    let at = diagram_nodes-is none node listed in
    absurd (omega (arith, at.1))

module _ (numbers : List ℕ) (from : ArenaValue) where
  abbrev new_table : Ref → List ℕ
  new_table ref = as_table from.slots (renumbered numbers from ref)

  -- the nodes of a function with new numbers are among those of all
  pub among_new : (root : Ref) → IsRef from root → (node : ℕ × List ℕ) → Contains (nodes_of from.slots (new_table root)) node → Contains (new_nodes numbers from) node
  among_new (Leaf number) is node there = absurd (no_nodes from.slots (get_or numbers number 0) node there)
  among_new (Place place) is node there =
      Contains-flat_map (nodes_of from.slots) (map new_table (places from)) (new_table (Place place)) node
      (Contains-map new_table (places from) (Place place) (Contains-map Place (range_with_len 0 (length from.nodes)) place (Contains-range (length from.nodes) place is))) there

  numbers_in_turn : (letters : List (List Bool)) (root : Ref)
      → map (λ number. get_or numbers number 0) (map (value_of from root) letters) ≡ map (renumbered numbers from root) letters
  numbers_in_turn [] root = refl
  numbers_in_turn (letter ∷ letters) root = ap (λ rest. renumbered numbers from root letter ∷ rest) (numbers_in_turn letters root)

  tables_in_turn : (letters : List (List Bool)) (roots : List Ref)
      → map (map (λ number. get_or numbers number 0)) (map (λ root. map (value_of from root) letters) roots) ≡ map (λ root. map (renumbered numbers from root) letters) roots
  tables_in_turn letters [] = refl
  tables_in_turn letters (root ∷ roots) = (λ i. numbers_in_turn letters root i ∷ tables_in_turn letters roots i)

  new_tables : (roots : List Ref) → map (map (λ number. get_or numbers number 0)) (map (table_of from) roots) ≡ map new_table roots
  unfolding table_of
  new_tables roots = tables_in_turn _ roots

  new_are_no_more : IsArena from → (roots : List Ref) → All (IsRef from) roots → node_count from.slots (map new_table roots) ≤ length from.nodes
  new_are_no_more is roots all =
      let fewer = renumbered_no_more (λ number. get_or numbers number 0) from.slots (map (table_of from) roots) in
      let least = count_least from is.reduced roots all in
      omega (arith, fewer, least, ap (node_count from.slots) (new_tables roots))

-- so there is room for one more function
module _ (r : RenumberingValue) (is : IsRenumbering r) (root : Ref) (one : IsRef r.from root) where
  abbrev tables_at : ℕ → List Ref → List (List ℕ)
  tables_at slots roots = map (λ ref. as_table slots (renumbered r.numbers r.from ref)) roots

  old_among : (node : ℕ × List ℕ) → Contains (nodes_of_all r.own.slots (map (table_of r.own) (places r.own))) node → Contains (nodes_of_all r.own.slots (tables_at r.own.slots (places r.from))) node
  old_among node there =
      let by_table = Contains-flat_map_cases (nodes_of r.own.slots) (map (table_of r.own) (places r.own)) node there in
      let by_ref = Contains-map_cases (table_of r.own) (places r.own) by_table.0 by_table.1 in
      let listed = listed_in_diagram r.own is.own.reduced by_ref.0 (All-contains (IsRef r.own) (places r.own) by_ref.0 (places_are_refs r.own is.own.reduced) by_ref.1) node
      (subst (λ table. Contains (nodes_of r.own.slots table) node) (sym by_ref.2) by_table.2) in
      subst (λ slots. Contains (nodes_of_all slots (tables_at slots (places r.from))) node) (sym is.slots) (is.only node listed)

  all_among : (node : ℕ × List ℕ)
      → Contains (nodes_of_all r.own.slots (map (table_of r.own) (places r.own) ++ as_table r.own.slots (renumbered r.numbers r.from root) ∷ [])) node
      → Contains (nodes_of_all r.own.slots (tables_at r.own.slots (root ∷ places r.from))) node
  all_among node there =
      let slots = r.own.slots in
      let new = as_table slots (renumbered r.numbers r.from root) in
      let rest = nodes_of_all slots (tables_at slots (places r.from)) in
      let by_table = Contains-flat_map_cases (nodes_of slots) (map (table_of r.own) (places r.own) ++ new ∷ []) node there in
      elim (Contains-append_cases (map (table_of r.own) (places r.own)) (new ∷ []) by_table.0 by_table.1) [
        | inl old ↦ Contains-append_right (nodes_of slots new) rest node (old_among node (Contains-flat_map (nodes_of slots) (map (table_of r.own) (places r.own)) by_table.0 node old by_table.2))
        | inr last ↦ Contains-append_left (nodes_of slots new) rest node (subst (λ table. Contains (nodes_of slots table) node) (only_one new by_table.0 last) by_table.2)
      ]
    where
      only_one : (new table : List ℕ) → Contains (new ∷ []) table → table ≡ new
      only_one new table (zero, within, at) = sym at
      only_one new table (suc place, within, at) = absurd (omega (arith, within))

  pub has_room : count_with r.own (renumbered r.numbers r.from root) ≤ r.own.limit
  has_room =
      let fewer = fewer_nodes r.own.slots (map (table_of r.own) (places r.own) ++ as_table r.own.slots (renumbered r.numbers r.from root) ∷ []) (tables_at r.own.slots (root ∷ places r.from)) all_among in
      let all : All (IsRef r.from) (root ∷ places r.from) = All-cons (IsRef r.from) root (places r.from) one (places_are_refs r.from is.from.reduced) in
      let no_more = subst (λ slots. node_count slots (tables_at slots (root ∷ places r.from)) ≤ length r.from.nodes) (sym is.slots) (new_are_no_more r.numbers r.from is.from (root ∷ places r.from) all) in
      let room = is.room in
      omega (arith, fewer, no_more, room)

  -- and it still holds with that function
  pub one_more : (now : RemappingValue) (own : ArenaValue) → now.from ≡ r.from → now.numbers ≡ r.numbers → HoldsNew now own → IsArena own → KeepsRefs r.own own
      → AddsOnlyNodesOfFunction r.own own (renumbered r.numbers r.from root) → IsRenumbering (seen_as now own)
  one_more now own same_from same_numbers holds is_arena kept adds = record {
    from = subst IsArena (sym same_from) is.from;
    own = is_arena;
    slots = kept.slots ∙ is.slots ∙ ap (λ (from : ArenaValue). from.slots) (sym same_from);
    room = let room = is.room in omega (arith, room, kept.limit, ap (λ (from : ArenaValue). length from.nodes) same_from);
    only = λ node there. subst (λ (both : List ℕ × ArenaValue). Contains (new_nodes both.0 both.1) node) (λ i. (sym same_numbers i, sym same_from i)) (elim (adds node there) [
      | inl old ↦ is.only node old
      | inr new ↦ among_new r.numbers r.from root one node
          (subst (λ slots. Contains (nodes_of slots (as_table slots (renumbered r.numbers r.from root))) node) (kept.slots ∙ is.slots) new)
    ]);
    holds = holds;
  }

-- an arena without nodes has only such
pub no_more_yet : (now : RemappingValue) (own : ArenaValue) → IsArena now.from → IsArena own → own.slots ≡ now.from.slots → own.limit ≡ 4294967295 → own.nodes ≡ [] → HoldsNew now own → IsRenumbering (seen_as now own)
no_more_yet now own from is_arena slots limit empty holds = record {
  from = from;
  own = is_arena;
  slots = slots;
  room = let within = from.within in let below = from.limit in omega (arith, within, below, limit);
  only = λ node there. let at = diagram_nodes-is own node there in absurd (omega (arith, at.1, ap length empty));
  holds = holds;
}
