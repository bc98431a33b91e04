-- The coarse count: the product of two operands has no more nodes than there are pairs of all that their rows are made of.
--     view_has_sizes      an operand by its states and parts
--     pairs_of_all        no more nodes than pairs of parts
use Rattle.std.proofs.Common.{◌≡◌, ℕ, ◌+◌, ◌*◌, ◌^◌, ◌<◌, ◌≤◌, length, get_or, slice_index_or, Contains, sym, subst, ◌∙◌, arith}
use Rattle.std.proofs.lemmas.List.{length-map}
use Rattle.std.proofs.lemmas.List.Elements.{All-contains_itself, All-map}
use Rattle.dcv_arena.specs.Arena.{value_of}
use Rattle.dcv_arena.specs.Diagram.{node_count}
use Rattle.dcv_arena.proofs.Blocks.{length-table}
use Rattle.dcv_arena.proofs.Members.{Contains-map}
use Rattle.dcv_language.specs.Table.{TableState, no_state, row_of, automaton_of}
use Rattle.dcv_dfa.specs.Table.{HasStates}
use Rattle.dcv_shelf.specs.Stored.{ViewValue, stored_state, view_table}
use Rattle.dcv_quotient.proofs.SomeAutomata.{rows_of}
use Rattle.dcv_quotient.proofs.SomeDiagrams.{as_table-reading}
use Rattle.dcv_build.specs.Bounds.{HasNodesBefore, HasParts, next_of, states_of}
use Rattle.dcv_build.specs.Numbers.{number_of_pair}
use Rattle.dcv_build.proofs.ProductNodes.{IsRow, all_pairs}

module _ (view : ViewValue) (has : HasStates (automaton_of (view_table view).table) view.stored.slots (states_of view)) (state : ℕ) (below : state < states_of view) where
  -- a row is written down at letters of the table's own slots
  is_row : IsRow view.stored.slots (rows_of (view_table view).table) (states_of view) (next_of view state)
  is_row =
      let slots = view.stored.slots in
      let table = (view_table view).table in
      let within : state < length table = omega (arith, below, length-map view.stored.states.items (stored_state view.arena slots)) in
      let rows = All-map (λ (state : TableState). length state.row ≡ 2 ^ slots) (stored_state view.arena slots) view.stored.states.items
      (λ place default within. length-table (value_of view.arena (get_or view.stored.states.items place default).row) slots) in
      record {
        listed = subst (Contains (rows_of table)) (sym (as_table-reading slots (row_of table state) (rows state no_state within)))
            (Contains-map (λ (state : TableState). state.row) table (slice_index_or table state no_state) (All-contains_itself table state no_state within));
        below = λ letter width. has.steps state letter below width;
      }

pub pairs_of_all : (one other : ViewValue) (parts more most : ℕ) → one.stored.slots ≡ other.stored.slots → HasParts one parts → HasParts other more → parts * more ≤ most
    → HasNodesBefore one other one.stored.slots most
pairs_of_all one other parts more most slots is are within =
    let count = all_pairs one.stored.slots number_of_pair (rows_of (view_table one).table) (rows_of (view_table other).table) (states_of one) (states_of other) in
    record {
      nodes = count.nodes;
      few = by count.few;
      all = λ state another node below second there before. count.all (next_of one state) (next_of other another) (is_row one is.states state below) (second_row another second) node there;
    }
  where
    second_row : (another : ℕ) → another < states_of other → IsRow one.stored.slots (rows_of (view_table other).table) (states_of other) (next_of other another)
    second_row another second = subst (λ slots. IsRow slots (rows_of (view_table other).table) (states_of other) (next_of other another)) (sym slots) (is_row other are.states another second)

    by : {n : ℕ} → n ≡ (states_of one + node_count one.stored.slots (rows_of (view_table one).table)) * (states_of other + node_count one.stored.slots (rows_of (view_table other).table)) → n ≤ most
    by {n} count =
        let parts_are : parts ≡ states_of one + node_count one.stored.slots (rows_of (view_table one).table) = is.count in
        let more_are : more ≡ states_of other + node_count one.stored.slots (rows_of (view_table other).table) =
        are.count ∙ (λ i. states_of other + node_count (sym slots i) (rows_of (view_table other).table)) in
        let same : n ≡ parts * more = count ∙ (λ i. sym parts_are i * sym more_are i) in
        omega (arith, same, within)
