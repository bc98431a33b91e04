-- Functions of fewer slots that are made of others have no more nodes: where the number at an input is made of the numbers at the input with all
-- that may follow, a node of the new function is made of a node of the old one at the same slot.
--     Merges m merge           a number that is made of the numbers of a function at the letters of a width
--     merged_rows_no_more      functions that are so made of the rows of some states of a table have no more nodes than its rows
use Rattle.std.proofs.Common.{◌≡◌, ℕ, suc, ◌+◌, ◌-◌, ◌<◌, ◌≤◌, Bool, true, false, List, ◌∷◌, ◌++◌, length, map, get_or, Contains, All, refl, sym, ap, ◌∙◌, subst, arith}
use Rattle.std.specs.Set.{unique_keys}
use Rattle.std.proofs.lemmas.List.{append_assoc, length-append, length-map}
use Rattle.std.specs.Option.{option_map}
use Rattle.std.proofs.lemmas.List.Elements.{All-contains, Contains-get_or}
use Rattle.std.proofs.lemmas.Map.Made.{is_member-Decides, length-le_from_is_member, IsDistinct-from_AllPairs}
use Rattle.std.proofs.lemmas.Option.{slice_get-map, get_or_from_slice_get}
use Rattle.dcv_word.specs.Letter.{bits_of, letters_of_width}
use Rattle.dcv_word.proofs.AllLetters.{letters_of_width-place}
use Rattle.dcv_arena.specs.Diagram.{as_table, nodes_of, nodes_of_all, is_same_node, node_count}
use Rattle.dcv_arena.proofs.Blocks.{IsNodeOf, part_of, low_part, high_part, nodes_of-from, nodes_of-is}
use Rattle.dcv_arena.proofs.Fewer.{same_node, node_laws, each_once}
use Rattle.dcv_arena.proofs.Members.{Contains-map, Contains-map_cases, Contains-flat_map, Contains-flat_map_cases}
use Rattle.dcv_arena.proofs.Renumbered.{tables_no_more}
use Rattle.dcv_arena.proofs.Tables.{same_table, same_values}
use Rattle.dcv_language.specs.Table.{TableState, Table, IsTable, no_state, next_in}
use Rattle.dcv_quotient.proofs.SomeDiagrams.{reading, as_table-reading}
use Rattle.dcv_quotient.proofs.SomeAutomata.{rows_of}

abbrev Node : Type 0
Node = ℕ × List ℕ

-- the table of a function is read as the function
reading-as_table : (width : ℕ) (function : List Bool → ℕ) (letter : List Bool) → length letter ≡ width → reading (as_table width function) letter ≡ function letter
reading-as_table width function letter size =
    (λ i. reading (as_table (sym size i) function) letter)
    ∙ get_or_from_slice_get (as_table (length letter) function) (bits_of letter) (function letter) 0
    (slice_get-map function (letters_of_width (length letter)) (bits_of letter) ∙ ap (option_map function) (letters_of_width-place letter))

-- nodes that all are made of others are no more than these
images_no_more : (image : Node → Node) (few many : List Node) → ((node : Node) → Contains few node → (old : Node) × Contains many old × (image old ≡ node))
    → length (unique_keys is_same_node few) ≤ length (unique_keys is_same_node many)
images_no_more image few many made =
    let few_once = each_once few in
    let many_once = each_once many in
    let once = unique_keys is_same_node many in
    let no_more = length-le_from_is_member node_laws (unique_keys is_same_node few) (map image once)
    (IsDistinct-from_AllPairs same_node (unique_keys is_same_node few) few_once.apart)
    (λ q found.
    let (old, there, is) = made q ((is_member-Decides same_node few q).0 (sym (few_once.members q) ∙ found)) in
    let kept : Contains once old = (is_member-Decides same_node once old).0 (many_once.members old ∙ (is_member-Decides same_node many old).1 there) in
    (is_member-Decides same_node (map image once) q).1 (subst (Contains (map image once)) is (Contains-map image once old kept))) in
    omega (arith, no_more, length-map once image)

pub record Merges (m : ℕ) (merge : (List Bool → ℕ) → ℕ) : Type 0 where
  pub alike : (one other : List Bool → ℕ) → ((output : List Bool) → length output ≡ m → one output ≡ other output) → merge one ≡ merge other

-- the function of the first slots that is made of a function of all
abbrev merged : ((List Bool → ℕ) → ℕ) → (List Bool → ℕ) → List Bool → ℕ
merged merge whole input = merge (λ output. whole (input ++ output))

module _ (n m : ℕ) (merge : (List Bool → ℕ) → ℕ) (merges : Merges m merge) where
  -- the node after a front is made of the one after the same front
  abbrev image : Node → Node
  image node = (node.0, as_table (n - node.0) (merged merge (reading node.1)))

  module _ (whole : List Bool → ℕ) (node : Node) (split : IsNodeOf n (merged merge whole) node) where
    abbrev rest : ℕ
    rest = split.rest

    abbrev old : Node
    old = (length split.front, part_of whole split.front (suc (rest + m)))

    behind : (values output : List Bool) → whole ((split.front ++ values) ++ output) ≡ whole (split.front ++ (values ++ output))
    behind values output = ap whole (append_assoc split.front values output)

    halves_alike : low_part whole split.front (rest + m) ≡ high_part whole split.front (rest + m)
        → low_part (merged merge whole) split.front rest ≡ high_part (merged merge whole) split.front rest
    halves_alike same =
        let equal = same_values (rest + m) (λ values. whole (split.front ++ false ∷ values)) (λ values. whole (split.front ++ true ∷ values)) same in
        same_table rest (λ values. merged merge whole (split.front ++ false ∷ values)) (λ values. merged merge whole (split.front ++ true ∷ values)) (λ values size.
        merges.alike (λ output. whole ((split.front ++ false ∷ values) ++ output)) (λ output. whole ((split.front ++ true ∷ values) ++ output)) (λ output wide.
        behind (false ∷ values) output
        ∙ equal (values ++ output) (omega (arith, length-append values output))
        ∙ sym (behind (true ∷ values) output)))

    is_old : IsNodeOf (n + m) whole old
    is_old = record {
      front = split.front;
      rest = rest + m;
      level = refl;
      size = omega (arith, split.size);
      numbers = refl;
      differ = λ same. split.differ (halves_alike same);
    }

    image_old : image old ≡ node
    image_old =
        let size : n - length split.front ≡ suc rest = omega (arith, split.size) in
        let part = part_of whole split.front (suc (rest + m)) in
        let numbers : as_table (n - length split.front) (merged merge (reading part)) ≡ node.1 =
        ap (λ width. as_table width (merged merge (reading part))) size
        ∙ same_table (suc rest) (merged merge (reading part)) (λ values. merged merge whole (split.front ++ values)) (λ values width.
        merges.alike (λ output. reading part (values ++ output)) (λ output. whole ((split.front ++ values) ++ output)) (λ output wide.
        reading-as_table (suc (rest + m)) (λ values. whole (split.front ++ values)) (values ++ output) (omega (arith, length-append values output))
        ∙ sym (behind values output)))
        ∙ sym split.numbers in
        λ i. (split.level i, numbers i)

  module _ {X : Type 0} (whole : X → List Bool → ℕ) (states : List X) where
    node_merged : (node : Node) → Contains (nodes_of_all n (map (λ state. as_table n (merged merge (whole state))) states)) node
        → (old : Node) × Contains (nodes_of_all (n + m) (map (λ state. as_table (n + m) (whole state)) states)) old × (image old ≡ node)
    node_merged node there =
        let by_table = Contains-flat_map_cases (nodes_of n) (map (λ state. as_table n (merged merge (whole state))) states) node there in
        let by_state = Contains-map_cases (λ state. as_table n (merged merge (whole state))) states by_table.0 by_table.1 in
        let state = by_state.0 in
        let split = nodes_of-is n (merged merge (whole state)) node (subst (λ table. Contains (nodes_of n table) node) (sym by_state.2) by_table.2) in
        let before = old (whole state) node split in (
          before,
          Contains-flat_map (nodes_of (n + m)) (map (λ state. as_table (n + m) (whole state)) states) (as_table (n + m) (whole state)) before
              (Contains-map (λ state. as_table (n + m) (whole state)) states state by_state.1)
              (nodes_of-from (n + m) (whole state) before (is_old (whole state) node split)),
          image_old (whole state) node split,
        )

    merged_no_more : node_count n (map (λ state. as_table n (merged merge (whole state))) states)
        ≤ node_count (n + m) (map (λ state. as_table (n + m) (whole state)) states)
    merged_no_more =
        images_no_more image (nodes_of_all n (map (λ state. as_table n (merged merge (whole state))) states))
        (nodes_of_all (n + m) (map (λ state. as_table (n + m) (whole state)) states)) node_merged

  -- ---- the rows of a table

  pub merged_rows_no_more : (table : Table) → IsTable (n + m) table → (states : List ℕ) → All (λ state. state < length table) states
      → node_count n (map (λ state. as_table n (merged merge (next_in table state))) states) ≤ node_count (n + m) (rows_of table)
  merged_rows_no_more table is states below =
      let fewer = merged_no_more (next_in table) states in
      let some = tables_no_more (n + m) (map (λ state. as_table (n + m) (next_in table state)) states) (rows_of table) (λ row there.
      let (state, in_states, is_row) = Contains-map_cases (λ state. as_table (n + m) (next_in table state)) states row there in
      let within : state < length table = All-contains (λ state. state < length table) states state below in_states in
      let same : as_table (n + m) (next_in table state) ≡ (get_or table state no_state).row =
      as_table-reading (n + m) (get_or table state no_state).row (is.rows state no_state within) in
      subst (Contains (rows_of table)) (sym same ∙ is_row)
      (Contains-map (λ (state : TableState). state.row) table (get_or table state no_state) (Contains-get_or table state no_state within))) in
      omega (arith, fewer, some)
