-- How many nodes several functions have together.
use Rattle.std.proofs.Common.{◌≡◌, ℕ, ◌≤◌, Bool, List, [], ◌∷◌, ◌++◌, length, map, Contains, ◌⊎◌, inl, inr, refl, sym, subst, ◌∙◌, arith}
use Rattle.std.proofs.lemmas.List.Elements.{Contains-append_left, Contains-push, Contains-push_cases}
use Rattle.dcv_arena.specs.Arena.{ArenaValue, IsReduced, IsRef, level_of, table_of, places, node_of, AddsOnlyNodesOfFunction, count_with}
use Rattle.dcv_arena.specs.Diagram.{as_table, nodes_of, nodes_of_all, node_count}
use Rattle.dcv_arena.specs.Laws.{MeansBehind, NewNodeIsOneMore, AddedNodesAreCounted}
use Rattle.dcv_arena.specs.declared.nodes.Ref.TheVariants.{Place}
use Rattle.dcv_arena.proofs.Members.{Contains-flat_map, Contains-flat_map_cases}
use Rattle.dcv_arena.proofs.Fewer.{fewer_nodes}
use Rattle.dcv_arena.proofs.Counts.{of_roots-listed, only_own, places_are_refs, count_all}
use Rattle.dcv_arena.proofs.Growth.{grown, length-grown, keeps_grown, is_reduced_grown, adds_grown, slice_get-push_last, right_new, ref_meant, level_meant, value_meant}
use Rattle.dcv_arena.proofs.Behind.{of_meant}

-- ---- several functions, and one more

module _ (slots : ℕ) (tables : List (List ℕ)) (table : List ℕ) (node : ℕ × List ℕ) where
  of_several : Contains (nodes_of_all slots tables) node → Contains (nodes_of_all slots (tables ++ table ∷ [])) node
  of_several c =
      let found = Contains-flat_map_cases (nodes_of slots) tables node c in
      Contains-flat_map (nodes_of slots) (tables ++ table ∷ []) found.0 node (Contains-append_left tables (table ∷ []) found.0 found.1) found.2

  of_last : Contains (nodes_of slots table) node → Contains (nodes_of_all slots (tables ++ table ∷ [])) node
  of_last c = Contains-flat_map (nodes_of slots) (tables ++ table ∷ []) table node (Contains-push tables table) c

  of_all_cases : Contains (nodes_of_all slots (tables ++ table ∷ [])) node → Contains (nodes_of_all slots tables) node ⊎ Contains (nodes_of slots table) node
  of_all_cases c =
      let found = Contains-flat_map_cases (nodes_of slots) (tables ++ table ∷ []) node c in
      elim (Contains-push_cases tables table found.0 found.1) [
        | inl before ↦ inl (Contains-flat_map (nodes_of slots) tables found.0 node before found.2)
        | inr last ↦ inr (subst (λ one. Contains (nodes_of slots one) node) (sym last) found.2)
      ]

-- ---- arenas that grow on the way to a function

module _ (old new : ArenaValue) (function : List Bool → ℕ) (was : IsReduced old) (is : IsReduced new) (same : new.slots ≡ old.slots) (adds : AddsOnlyNodesOfFunction old new function) where
  -- each node of the new arena is counted with the old one and the function
  of_grown : (node : ℕ × List ℕ) → Contains (nodes_of_all new.slots (map (table_of new) (places new))) node
      → Contains (nodes_of_all new.slots (map (table_of old) (places old) ++ as_table new.slots function ∷ [])) node
  of_grown node c =
      let tables = map (table_of old) (places old) in
      let table = as_table new.slots function in
      elim (adds node (of_roots-listed new is (places new) (places_are_refs new is) node c)) [
        | inl before ↦ of_several new.slots tables table node (subst (λ slots. Contains (nodes_of_all slots tables) node) (sym same) (only_own old was node before))
        | inr own ↦ of_last new.slots tables table node own
      ]

pub added_are_counted : AddedNodesAreCounted
added_are_counted old new function was is kept adds =
    let few = map (table_of new) (places new) in
    let many = map (table_of old) (places old) in
    let table = as_table new.slots function in
    subst (λ slots. count_with new function ≤ node_count slots (many ++ as_table slots function ∷ [])) kept.slots
    (fewer_nodes new.slots (few ++ table ∷ []) (many ++ table ∷ []) (λ node c.
    elim (of_all_cases new.slots few table node c) [
      | inl of_refs ↦ of_grown old new function was.reduced is.reduced kept.slots adds node of_refs
      | inr own ↦ of_last new.slots many table node own
    ]))

-- the arena with the new node has one more, and each of its nodes is counted with the function: those of the arena, and
-- those of the new node's ref, which means the function after the front
pub new_is_one_more : NewNodeIsOneMore
new_is_one_more arena slot lo hi front function is lo_ref hi_ref inner lo_later hi_later fresh before goes =
    let node = node_of slot lo hi in
    let more = grown arena node in
    let last = length arena.nodes in
    let right = right_new arena slot lo hi lo_ref hi_ref inner lo_later hi_later fresh in
    let is' = is_reduced_grown arena node is.reduced right fresh.1 in
    let kept = keeps_grown arena node in
    let there = slice_get-push_last arena.nodes node last refl in
    let last_ref : IsRef more (Place last) = ref_meant arena more is' kept last slot lo hi there lo_ref hi_ref in
    let level : level_of more (Place last) ≡ slot = level_meant arena more is' kept last slot lo hi there lo_ref hi_ref in
    let means : MeansBehind more (Place last) front function = λ values size.
    value_meant arena more is' kept last slot lo hi there lo_ref hi_ref (front ++ values) ∙ sym (goes values size) in
    let adds : AddsOnlyNodesOfFunction arena more function = λ found c. elim (adds_grown arena node is.reduced right fresh.1 found c) [
      | inl old ↦ inl old
      | inr own ↦ inr (of_meant more is' (Place last) front function last_ref (omega arith) means found own)
    ] in
    let few = map (table_of more) (places more) in
    let many = map (table_of arena) (places arena) ++ as_table arena.slots function ∷ [] in
    let no_more : node_count arena.slots few ≤ count_with arena function =
    fewer_nodes arena.slots few many (of_grown arena more function is.reduced is' refl adds) in
    omega (arith, length-grown arena node, count_all more is', no_more)
