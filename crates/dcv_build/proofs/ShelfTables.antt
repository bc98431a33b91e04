-- Tables by their numbers on a shelf, while it grows, and how many nodes the table of an automaton has.
use Rattle.std.proofs.Common.{◌≡◌, ℕ, ◌<◌, List, [], ◌∷◌, ◌++◌, length, map, get_or, Some, slice_get, refl, sym, ap, ◌∙◌, arith}
use Rattle.std.specs.List.{range_with_len}
use Rattle.std.proofs.lemmas.List.{ext_get_or}
use Rattle.std.proofs.lemmas.List.Elements.{All-nil, All-cons, All-head, All-tail, All-weaker}
use Rattle.std.proofs.lemmas.List.FromFn.{length-map-range_with_len, get_or-map-range_with_len}
use Rattle.std.proofs.lemmas.Option.{get_or_from_slice_get, slice_get-get_or, slice_get_within}
use Rattle.std.proofs.lemmas.Simd.{map-map}
use Rattle.dcv_arena.specs.Arena.{table_of}
use Rattle.dcv_arena.specs.Diagram.{node_count}
use Rattle.dcv_arena.specs.declared.nodes.Ref.{Ref}
use Rattle.dcv_arena.specs.declared.nodes.Ref.TheVariants.{Leaf}
use Rattle.dcv_language.specs.Table.{TableState}
use Rattle.dcv_dfa.specs.Raw.{RawValue, row_of}
use Rattle.dcv_dfa.specs.Auto.{state_of, table_of_states, count_of_nodes}
use Rattle.dcv_shelf.specs.Shelf.{ShelfTable, table_of_auto, nodes_of_table, KeepsNumbers}
use Rattle.dcv_build.specs.Asked.{no_table, at_number, tables_at, AreThere}

-- ---- nodes

rows_by_number : (rows : List Ref) → map (λ number. get_or rows number (Leaf 0)) (range_with_len 0 (length rows)) ≡ rows
rows_by_number rows =
    let of : ℕ → Ref = λ number. get_or rows number (Leaf 0) in
    let size = length-map-range_with_len of 0 (length rows) in
    ext_get_or (Leaf 0) (map of (range_with_len 0 (length rows))) rows size
    (λ place within. get_or-map-range_with_len of 0 (length rows) place place (Leaf 0) (omega (arith, within, size)) (omega arith))

pub nodes_by_table : (auto : RawValue) → count_of_nodes auto ≡ nodes_of_table (table_of_auto auto)
unfolding table_of_states
nodes_by_table auto =
    let numbers = range_with_len 0 (length auto.rows) in
    ap (node_count auto.arena.slots)
    (ap (map (table_of auto.arena)) (sym (rows_by_number auto.rows))
    ∙ map-map (table_of auto.arena) (row_of auto) numbers
    ∙ sym (map-map (λ (state : TableState). state.row) (state_of auto) numbers))

-- ---- numbers

pub there_at : (shelf : List ShelfTable) (number : ℕ) → number < length shelf → slice_get shelf number ≡ Some (at_number shelf number)
there_at shelf number within = slice_get-get_or shelf number no_table within

pub at_of : (shelf : List ShelfTable) (number : ℕ) (one : ShelfTable) → slice_get shelf number ≡ Some one → at_number shelf number ≡ one
at_of shelf number one there = get_or_from_slice_get shelf number one no_table there

module _ (old new : List ShelfTable) (kept : KeepsNumbers old new) where
  pub at_kept : (number : ℕ) → number < length old → at_number new number ≡ at_number old number
  at_kept number within = at_of new number (at_number old number) (kept number (at_number old number) (there_at old number within))

  pub within_kept : (number : ℕ) → number < length old → number < length new
  within_kept number within = slice_get_within new number (at_number old number) (kept number (at_number old number) (there_at old number within))

  pub are_kept : (numbers : List ℕ) → AreThere old numbers → AreThere new numbers
  are_kept numbers there = All-weaker (λ number. number < length old) (λ number. number < length new) within_kept numbers there

  pub tables_kept : (numbers : List ℕ) → AreThere old numbers → tables_at new numbers ≡ tables_at old numbers
  tables_kept [] there = refl
  tables_kept (number ∷ numbers) there =
      let first = at_kept number (All-head (λ number. number < length old) number numbers there) in
      let rest = tables_kept numbers (All-tail (λ number. number < length old) number numbers there) in
      λ i. first i ∷ rest i

-- ---- some of the numbers

module _ (shelf : List ShelfTable) where
  abbrev Within : ℕ → Type 0
  Within number = number < length shelf

  pub front_there : (xs ys : List ℕ) → AreThere shelf (xs ++ ys) → AreThere shelf xs
  front_there [] ys all = All-nil Within
  front_there (x ∷ xs) ys all = All-cons Within x xs (All-head Within x (xs ++ ys) all) (front_there xs ys (All-tail Within x (xs ++ ys) all))

  pub behind_there : (xs ys : List ℕ) → AreThere shelf (xs ++ ys) → AreThere shelf ys
  behind_there [] ys all = all
  behind_there (x ∷ xs) ys all = behind_there xs ys (All-tail Within x (xs ++ ys) all)
