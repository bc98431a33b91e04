-- The nodes of a table's rows are enough for an arena into which the rows are copied one after another.
use Rattle.std.proofs.Common.{◌≡◌, ℕ, ◌<◌, ◌≤◌, Bool, List, [], ◌∷◌, ◌++◌, length, map, get_or, Contains, inl, inr, sym, ap, subst, ◌∙◌, arith}
use Rattle.std.proofs.lemmas.List.{length-map, get_or-map}
use Rattle.std.proofs.lemmas.List.Elements.{Contains-append_cases}
use Rattle.dcv_arena.specs.Arena.{ArenaValue, value_of, table_of, places, count_with}
use Rattle.dcv_arena.specs.Diagram.{as_table, nodes_of, nodes_of_all, node_count}
use Rattle.dcv_arena.specs.declared.nodes.Ref.{Ref}
use Rattle.dcv_arena.specs.declared.nodes.Ref.TheVariants.{Leaf}
use Rattle.dcv_arena.proofs.Counts.{of_roots-listed, places_are_refs}
use Rattle.dcv_arena.proofs.Fewer.{fewer_nodes}
use Rattle.dcv_arena.proofs.Members.{Contains-flat_map, Contains-flat_map_cases}
use Rattle.dcv_arena.proofs.Tables.{same_table}
use Rattle.dcv_language.specs.Table.{TableState, Table, no_state as no_table_state}
use Rattle.dcv_shelf.specs.Stored.{row_at, stored_state, stored_table, IsStored, HasRows}
use Rattle.dcv_shelf.specs.declared.stored.State.{State}
use Rattle.dcv_shelf.specs.declared.stored.Stored.{Stored}
use Rattle.dcv_shelf.proofs.CopiedRows.{no_state}

only_one : (x y : List ℕ) → Contains (x ∷ []) y → x ≡ y
only_one x y c = let first : c.0 ≡ 0 = omega (arith, c.1) in subst (λ k. get_or (x ∷ []) k y ≡ y) first c.2

module _ (from : ArenaValue) (stored : Stored) (is : IsStored from stored) (arena : ArenaValue) (rows : List Ref) (has : HasRows from stored arena rows)
    (few : length rows ≤ length stored.states.items) where
  abbrev states : List State
  states = stored.states.items

  abbrev whole : Table
  whole = (stored_table from stored).table

  abbrev tables : List (List ℕ)
  tables = map (λ (state : TableState). state.row) whole

  -- what means the same as a state's row is one of the tables
  table_there : (place : ℕ) (function : List Bool → ℕ) → place < length states
      → ((letter : List Bool) → length letter ≡ stored.slots → function letter ≡ value_of from (row_at stored place) letter) → Contains tables (as_table arena.slots function)
  table_there place function within same =
      let many = length-map states (stored_state from stored.slots) in
      let inside : place < length whole = omega (arith, within, many) in (
        place,
        omega (arith, inside, length-map whole (λ (state : TableState). state.row)),
        get_or-map (λ (state : TableState). state.row) whole place no_table_state (as_table arena.slots function) inside
            ∙ ap (λ (state : TableState). state.row) (get_or-map (stored_state from stored.slots) states place no_state no_table_state within)
            ∙ sym (same_table stored.slots function (value_of from (row_at stored place)) same)
            ∙ (λ i. as_table (sym has.slots i) function),
      )

  -- a node of the rows so far is one of the whole table
  of_rows : (node : ℕ × List ℕ) → Contains (nodes_of_all arena.slots (map (table_of arena) rows)) node → Contains (nodes_of_all arena.slots tables) node
  unfolding table_of
  of_rows node there =
      let (table, row, node_there) = Contains-flat_map_cases (nodes_of arena.slots) (map (table_of arena) rows) node there in
      let within : row.0 < length rows = omega (arith, row.1, length-map rows (table_of arena)) in
      let own = get_or rows row.0 (Leaf 0) in
      let same : table_of arena own ≡ table = sym (get_or-map (table_of arena) rows row.0 (Leaf 0) table within) ∙ row.2 in
      let listed = table_there row.0 (value_of arena own) (omega (arith, within, few)) (λ letter size. has.values row.0 letter within size) in
      Contains-flat_map (nodes_of arena.slots) tables table node (subst (Contains tables) same listed) node_there

  pub row_has_room : (place : ℕ) (function : List Bool → ℕ) → place < length states
      → ((letter : List Bool) → length letter ≡ stored.slots → function letter ≡ value_of from (row_at stored place) letter) → count_with arena function ≤ stored.nodes
  row_has_room place function within same =
      let own = map (table_of arena) (places arena) in
      let table = as_table arena.slots function in
      let fewer = fewer_nodes arena.slots (own ++ table ∷ []) tables (λ node there.
      let (found, in_all, node_there) = Contains-flat_map_cases (nodes_of arena.slots) (own ++ table ∷ []) node there in
      elim (Contains-append_cases own (table ∷ []) found in_all) [
        | inl of_place ↦ of_rows node (has.nodes node (of_roots-listed arena has.arena_is.reduced (places arena) (places_are_refs arena has.arena_is.reduced) node (Contains-flat_map (nodes_of arena.slots) own found node of_place node_there)))
        | inr last ↦ Contains-flat_map (nodes_of arena.slots) tables found node (subst (Contains tables) (only_one table found last) (table_there place function within same)) node_there
      ]) in
      subst (λ count. count_with arena function ≤ count) (sym is.nodes) (subst (λ slots. count_with arena function ≤ node_count slots tables) has.slots fewer)
