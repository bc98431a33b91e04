-- A function of states and inputs has rows: for each of these states a diagram of the function there.
--     tables_for n states f            the tables of the function at these states
--     StaysBelow n bound f state       at each input the number is below the bound
--     RowsFor n bound states f rows    a row over n inputs for each state, with the numbers of the function, below the bound, and as many nodes as it has
--     some_rows                        so there are some, where the number of nodes fits
use Rattle.std.proofs.Common.{◌≡◌, ℕ, ◌^◌, ◌<◌, ◌≤◌, Bool, List, [], length, map, get_or, All, sym, ap, ◌∙◌, subst, arith}
use Rattle.std.proofs.lemmas.List.{length-map, get_or-map}
use Rattle.std.proofs.lemmas.Option.{get_or_from_slice_get, slice_get_within}
use Rattle.dcv_word.specs.Letter.{letters_of_width}
use Rattle.dcv_word.proofs.AllLetters.{length-letters_of_width}
use Rattle.dcv_arena.specs.Arena.{ArenaValue, value_of, table_of}
use Rattle.dcv_arena.specs.Diagram.{as_table, node_count}
use Rattle.dcv_arena.specs.declared.nodes.Ref.{Ref}
use Rattle.dcv_arena.specs.declared.nodes.Ref.TheVariants.{Leaf}
use Rattle.dcv_arena.proofs.Tables.{same_values}
use Rattle.dcv_synth.specs.Control.{RowsValue, IsRows, AreRowsBelow, AreRowsOf}
use Rattle.dcv_quotient.specs.Diagrams.{AreDiagramsOf}
use Rattle.dcv_quotient.proofs.SomeDiagrams.{some_diagrams}

abbrev pub tables_for : ℕ → List ℕ → (ℕ → List Bool → ℕ) → List (List ℕ)
tables_for n states f = map (λ state. as_table n (f state)) states

abbrev pub StaysBelow : ℕ → ℕ → (ℕ → List Bool → ℕ) → ℕ → Type 0
StaysBelow n bound f state = (input : List Bool) → length input ≡ n → f state input < bound

pub record RowsFor (n bound : ℕ) (states : List ℕ) (f : ℕ → List Bool → ℕ) (rows : RowsValue) : Type 0 where
  pub rows_of : AreRowsOf n states f rows
  pub below : AreRowsBelow bound states rows
  pub nodes : length rows.arena.nodes ≡ node_count n (tables_for n states f)

-- a ref with the table of a function has its numbers
value_meant : (arena : ArenaValue) (ref : Ref) (n : ℕ) (function : List Bool → ℕ) → arena.slots ≡ n → table_of arena ref ≡ as_table n function
    → (input : List Bool) → length input ≡ n → value_of arena ref input ≡ function input
unfolding table_of
value_meant arena ref n function slots means input width =
    same_values n (value_of arena ref) function (ap (λ slots. as_table slots (value_of arena ref)) (sym slots) ∙ means) input width

module _ (n bound : ℕ) (states : List ℕ) (f : ℕ → List Bool → ℕ) (arena : ArenaValue) (refs : List Ref) (drawn : AreDiagramsOf n (tables_for n states f) arena refs)
    (below : All (StaysBelow n bound f) states) where
  abbrev made : RowsValue
  made = record { arena = arena; rows = refs }

  count_of_refs : length refs ≡ length states
  count_of_refs = sym (length-map refs (table_of arena)) ∙ ap length drawn.mean ∙ length-map states (λ state. as_table n (f state))

  value_at : (place : ℕ) (d : Ref) (input : List Bool) → place < length states → length input ≡ n
      → value_of arena (get_or refs place d) input ≡ f (get_or states place 0) input
  value_at place d input within width =
      value_meant arena (get_or refs place d) n (f (get_or states place 0)) drawn.same_slots
      (sym (get_or-map (table_of arena) refs place d [] (omega (arith, count_of_refs)))
      ∙ ap (λ tables. get_or tables place []) drawn.mean
      ∙ get_or-map (λ state. as_table n (f state)) states place 0 [] within) input width

  rows_for : RowsFor n bound states f made
  rows_for =
      let are : IsRows made = record { arena = drawn.is; refs = drawn.ones } in
      record {
        rows_of = record {
          slots = drawn.same_slots;
          count = count_of_refs;
          values = λ place state input at width.
              value_at place (Leaf 0) input (slice_get_within states place state at) width
              ∙ ap (λ state. f state input) (get_or_from_slice_get states place state 0 at);
        };
        below = record {
          are = are;
          count = count_of_refs;
          below = λ place d within input width.
              let inside : place < length states = omega (arith, count_of_refs) in
              let size : length input ≡ n = width ∙ drawn.same_slots in
              subst (λ number. number < bound) (sym (value_at place d input inside size)) (below place 0 inside input size);
        };
        nodes = drawn.count;
      }

pub some_rows : (n bound : ℕ) (states : List ℕ) (f : ℕ → List Bool → ℕ) → n ≤ 32 → All (StaysBelow n bound f) states → node_count n (tables_for n states f) < 2 ^ 32
    → (rows : RowsValue) × RowsFor n bound states f rows
some_rows n bound states f narrow below few =
    let sizes : All (λ table. length table ≡ 2 ^ n) (tables_for n states f) = λ place d within.
    let inside : place < length states = omega (arith, length-map states (λ state. as_table n (f state))) in
    ap length (get_or-map (λ state. as_table n (f state)) states place 0 d inside)
    ∙ length-map (letters_of_width n) (f (get_or states place 0))
    ∙ length-letters_of_width n in
    let (arena, refs, drawn) = some_diagrams n (tables_for n states f) narrow sizes few in
    (made n bound states f arena refs drawn below, rows_for n bound states f arena refs drawn below)
