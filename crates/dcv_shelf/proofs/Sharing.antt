-- What is kept of a canonical automaton stands for its table.
use Rattle.std.proofs.Common.{◌≡◌, ℕ, ◌≤◌, List, [], ◌∷◌, length, map, get_or, zero, suc, All, ap, sym, subst, ◌∙◌, arith}
use Rattle.std.specs.List.{range_with_len}
use Rattle.std.proofs.lemmas.List.{ext_get_or}
use Rattle.std.proofs.lemmas.List.Elements.{All-head, All-tail, All-map}
use Rattle.std.proofs.lemmas.List.FromFn.{length-map-range_with_len, get_or-map-range_with_len}
use Rattle.std.proofs.lemmas.Simd.{map-map}
use Rattle.dcv_arena.specs.Arena.{ArenaValue, IsArena, IsRef, table_of, places, HasOnlyNodesOf}
use Rattle.dcv_arena.specs.Diagram.{as_table, node_count}
use Rattle.dcv_shelf.specs.Copies.{DependsOnFirst, IsCopy, HasCopies, copied_ref}
use Rattle.dcv_arena.specs.declared.nodes.Ref.{Ref}
use Rattle.dcv_arena.specs.declared.nodes.Ref.TheVariants.{Leaf}
use Rattle.dcv_arena.proofs.Counts.{count_all, of_roots-listed, places_are_refs}
use Rattle.dcv_arena.proofs.Fewer.{fewer_nodes}
use Rattle.dcv_shelf.proofs.Copies.{copy_of, before_count}
use Rattle.dcv_shelf.proofs.FirstSlots.{depends_on_slots}
use Rattle.dcv_language.specs.Table.{TableState, table_accepts}
use Rattle.dcv_language.proofs.Canonicals.{canonical_for_same_behaviours}
use Rattle.dcv_dfa.specs.Raw.{RawValue, IsRaw, row_of, raw_accepts}
use Rattle.dcv_dfa.specs.Auto.{IsAutoWith, state_of, table_of_states, count_of_nodes}
use Rattle.dcv_shelf.specs.Shelf.{ShelfTable, table_of_auto, nodes_of_table, IsCanonicalTable}
use Rattle.dcv_shelf.specs.Stored.{stored_state, stored_table, copied_state, copied_states, IsStored}
use Rattle.dcv_shelf.specs.declared.stored.State.{State}
use Rattle.dcv_shelf.specs.declared.stored.Stored.{Stored}
use Rattle.dcv_dfa.proofs.States.{table_accepts_as_the_states}

-- a row by number is a ref, also where there is none with this number
row_is_ref : (arena : ArenaValue) (rows : List Ref) → All (IsRef arena) rows → (number : ℕ) → IsRef arena (get_or rows number (Leaf 0))
row_is_ref arena [] all number = tt
row_is_ref arena (row ∷ rows) all zero = All-head (IsRef arena) row rows all
row_is_ref arena (row ∷ rows) all (suc number) = row_is_ref arena rows (All-tail (IsRef arena) row rows all) number

rows_by_number : (rows : List Ref) → map (λ number. get_or rows number (Leaf 0)) (range_with_len 0 (length rows)) ≡ rows
rows_by_number rows =
    let by : ℕ → Ref = λ number. get_or rows number (Leaf 0) in
    let size = length-map-range_with_len by 0 (length rows) in
    ext_get_or (Leaf 0) (map by (range_with_len 0 (length rows))) rows size (λ i within. get_or-map-range_with_len by 0 (length rows) i i (Leaf 0) (omega (arith, size)) (omega arith))

-- what is kept is right, and stands for the automaton's table
pub record IsKept (auto : RawValue) (arena : ArenaValue) (form : Stored) : Type 0 where
  pub stored : IsStored arena form
  pub table : stored_table arena form ≡ table_of_auto auto

module _ (auto : RawValue) (is : IsRaw auto) (arena : ArenaValue) (copies : List Ref) (has : HasCopies auto.arena arena copies) (all : length copies ≡ length auto.arena.nodes) where
  row_copy : (number : ℕ) → IsCopy auto.arena arena (row_of auto number) (copied_ref copies (row_of auto number))
  row_copy number = copy_of auto.arena arena copies has (row_of auto number) (before_count (row_of auto number) all (row_is_ref auto.arena auto.rows is.rows number))

  row_first : (number : ℕ) → DependsOnFirst arena auto.arena.slots (copied_ref copies (row_of auto number))
  row_first number first second same =
      let copy = row_copy number in
      copy.value first
      ∙ depends_on_slots auto.arena is.arena.reduced (row_of auto number) (row_is_ref auto.arena auto.rows is.rows number) first second same
      ∙ sym (copy.value second)

  same_state : (number : ℕ) → stored_state arena auto.arena.slots (copied_state auto copies number) ≡ state_of auto number
  unfolding table_of
  same_state number = λ i. record { accepting = (state_of auto number).accepting; row = as_table auto.arena.slots (λ letter. (row_copy number).value letter i) }

  same_states : map (stored_state arena auto.arena.slots) (copied_states auto copies (length auto.rows)) ≡ table_of_states auto
  unfolding table_of_states
  same_states =
      map-map (stored_state arena auto.arena.slots) (copied_state auto copies) (range_with_len 0 (length auto.rows))
      ∙ (λ i. map (λ number. same_state number i) (range_with_len 0 (length auto.rows)))

  module _ (stored : Stored) (slots : stored.slots ≡ auto.arena.slots) (items : stored.states.items ≡ copied_states auto copies (length auto.rows)) where
    table_is : stored_table arena stored ≡ table_of_auto auto
    table_is =
        (λ i. record { slots = slots i; table = map (stored_state arena (slots i)) (items i) })
        ∙ (λ i. record { slots = auto.arena.slots; table = same_states i })

    refs : All (λ (state : State). IsRef arena state.row) stored.states.items
    refs =
        subst (All (λ (state : State). IsRef arena state.row)) (sym items)
        (All-map (λ (state : State). IsRef arena state.row) (copied_state auto copies) (range_with_len 0 (length auto.rows))
        (λ i d below. (row_copy (get_or (range_with_len 0 (length auto.rows)) i d)).is_ref))

    firsts : All (λ (state : State). DependsOnFirst arena stored.slots state.row) stored.states.items
    firsts =
        subst (λ n. All (λ (state : State). DependsOnFirst arena n state.row) stored.states.items) (sym slots)
        (subst (All (λ (state : State). DependsOnFirst arena auto.arena.slots state.row)) (sym items)
        (All-map (λ (state : State). DependsOnFirst arena auto.arena.slots state.row) (copied_state auto copies) (range_with_len 0 (length auto.rows))
        (λ i d below. row_first (get_or (range_with_len 0 (length auto.rows)) i d))))

    canonical_is : IsAutoWith auto stored.alone → IsCanonicalTable (table_of_auto auto) stored.alone
    canonical_is its = record {
      access = its.auto.access;
      canonical = canonical_for_same_behaviours auto.arena.slots (raw_accepts auto) (table_accepts (table_of_states auto)) (table_of_states auto) its.auto.access
          (λ word b. sym (table_accepts_as_the_states auto is its.auto.start word b)) its.auto.canonical;
      alone_is = its.alone;
    }

    nodes_are : count_of_nodes auto ≡ nodes_of_table (table_of_auto auto)
    unfolding table_of_states
    nodes_are =
        let numbers = range_with_len 0 (length auto.rows) in
        ap (node_count auto.arena.slots)
        (ap (map (table_of auto.arena)) (sym (rows_by_number auto.rows))
        ∙ map-map (table_of auto.arena) (row_of auto) numbers
        ∙ sym (map-map (λ (state : TableState). state.row) (state_of auto) numbers))

    stored_is : IsAutoWith auto stored.alone → stored.nodes ≡ count_of_nodes auto → IsStored arena stored
    stored_is its nodes = record {
      slots = omega (arith, slots, has.slots);
      refs = refs;
      first = firsts;
      canonical = subst (λ (s : ShelfTable). IsCanonicalTable s stored.alone) (sym table_is) (canonical_is its);
      nodes = subst (λ (s : ShelfTable). stored.nodes ≡ nodes_of_table s) (sym table_is) (nodes ∙ nodes_are);
      states = omega (arith, ap length items, length-map-range_with_len (copied_state auto copies) 0 (length auto.rows), is.states);
    }

    pub is_kept : IsAutoWith auto stored.alone → stored.nodes ≡ count_of_nodes auto → IsKept auto arena stored
    is_kept its nodes = record { stored = stored_is its nodes; table = table_is }

-- the arena has no nodes but those of the rows
pub few_nodes : (auto : RawValue) (from : ArenaValue) → IsArena from → from ≡ auto.arena → HasOnlyNodesOf auto.arena auto.rows → length from.nodes ≤ count_of_nodes auto
few_nodes auto from is same only =
    let arena = auto.arena in
    let reduced = (subst IsArena same is).reduced in
    omega (
      arith,
      ap (λ (arena : ArenaValue). length arena.nodes) same,
      count_all arena reduced,
      fewer_nodes arena.slots (map (table_of arena) (places arena)) (map (table_of arena) auto.rows)
          (λ node c. only node (of_roots-listed arena reduced (places arena) (places_are_refs arena reduced) node c)),
    )
