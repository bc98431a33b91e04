-- Where a table's game is won there is a controller of least outputs, as diagrams that have no more nodes than the table's rows.
--     IsControlFor n m table control    it is one, over n inputs, and has no more nodes
--     some_control                      so there is one
use Rattle.std.proofs.Common.{◌≡◌, inl, inr, ℕ, zero, suc, ◌+◌, ◌^◌, ◌<◌, ◌≤◌, nat_eq, Bool, true, false, ◌||◌, List, ◌∷◌, ◌++◌, length, filter, get_or, Contains, All, AllPairs, refl, sym, ap, ◌∙◌, subst, arith}
use Rattle.std.specs.Prelude.{if◌then◌else◌}
use Rattle.std.specs.List.{range_with_len}
use Rattle.std.proofs.Math.Pow.{pow_mono}
use Rattle.std.proofs.lemmas.Bool.{true≢false, cases_lt, eqb-true, eq-eqb, or_left, or_right}
use Rattle.std.proofs.lemmas.List.{length-append, get_or_past}
use Rattle.std.proofs.lemmas.List.Elements.{All-contains_itself, All-weaker}
use Rattle.std.proofs.lemmas.List.FromFn.{length-range_with_len, get_or-range_with_len}
use Rattle.std.proofs.lemmas.List.Kept.{AllPairs-filter}
use Rattle.dcv_word.specs.Letter.{bits_of}
use Rattle.dcv_word.proofs.Bits.{bits_of-lt}
use Rattle.dcv_arena.specs.Diagram.{node_count}
use Rattle.dcv_arena.proofs.Members.{Contains-filter, Contains-filter_cases, Contains-range, Contains-range_cases}
use Rattle.dcv_language.proofs.Behaviours.{some_track-same}
use Rattle.dcv_language.specs.Table.{TableState, Table, IsTable, no_state, automaton_of, next_in}
use Rattle.dcv_language.specs.Limits.{number_bound}
use Rattle.dcv_synth.specs.Tracks.{least_track}
use Rattle.dcv_synth.specs.Realisable.{IsRealisable}
use Rattle.dcv_synth.specs.Play.{answer_of, IsStartOr}
use Rattle.dcv_synth.specs.Control.{ControlValue, IsControl, IsControlOf}
use Rattle.dcv_synth.proofs.Tracks.{least-length}
use Rattle.dcv_existence.proofs.MergedRows.{Merges, merged_rows_no_more}
use Rattle.dcv_quotient.proofs.SomeAutomata.{rows_of}
use Rattle.dcv_existence.proofs.SomeRows.{StaysBelow, tables_for, some_rows}

-- ---- the least output depends on the outputs of the width alone

least_track-same : (m : ℕ) (p q : List Bool → Bool) → ((track : List Bool) → length track ≡ m → p track ≡ q track) → least_track m p ≡ least_track m q
least_track-same zero p q same = refl
least_track-same (suc m) p q same =
    let some = some_track-same m (λ track. p (false ∷ track)) (λ track. q (false ∷ track)) (λ track size. same (false ∷ track) (ap suc size)) in
    let low = least_track-same m (λ track. p (false ∷ track)) (λ track. q (false ∷ track)) (λ track size. same (false ∷ track) (ap suc size)) in
    let high = least_track-same m (λ track. p (true ∷ track)) (λ track. q (true ∷ track)) (λ track size. same (true ∷ track) (ap suc size)) in
    λ i. if some i then false ∷ low i else true ∷ high i

module _ (m : ℕ) (win : ℕ → Bool) where
  -- of where the outputs lead to come the least output that leads into the set, and where it leads to
  abbrev least_in : (List Bool → ℕ) → List Bool
  least_in next = least_track m (λ output. win (next output))

  abbrev next_of : (List Bool → ℕ) → ℕ
  next_of next = next (least_in next)

  abbrev output_of : (List Bool → ℕ) → ℕ
  output_of next = bits_of (least_in next)

  least_in-same : (one other : List Bool → ℕ) → ((output : List Bool) → length output ≡ m → one output ≡ other output) → least_in one ≡ least_in other
  least_in-same one other same = least_track-same m (λ output. win (one output)) (λ output. win (other output)) (λ output size. ap win (same output size))

  next_merges : Merges m next_of
  next_merges = record {
    alike = λ one other same.
        same (least_in one) (least-length m (λ output. win (one output))) ∙ ap other (least_in-same one other same);
  }

  output_merges : Merges m output_of
  output_merges = record { alike = λ one other same. ap bits_of (least_in-same one other same) }

-- ---- the states, in order

range_in_order : (count : ℕ) → AllPairs (λ (one other : ℕ). one < other) (range_with_len 0 count)
range_in_order count i j d before within =
    let size = length-range_with_len 0 count in
    let inside : j < count = omega arith in
    omega (arith, get_or-range_with_len 0 count i d (omega arith), get_or-range_with_len 0 count j d inside)

pub record IsControlFor (n m : ℕ) (table : Table) (control : ControlValue) : Type 0 where
  pub is : IsControl control
  pub least : IsControlOf n m (automaton_of table) control
  pub inputs : control.next.arena.slots ≡ n
  pub next_nodes : length control.next.arena.nodes ≤ node_count (n + m) (rows_of table)
  pub output_nodes : length control.output.arena.nodes ≤ node_count (n + m) (rows_of table)

module _ (n m : ℕ) (table : Table) (is : IsTable (n + m) table) (can : IsRealisable n m (automaton_of table)) where
  abbrev win : ℕ → Bool
  win = can.win

  abbrev is_chosen : ℕ → Bool
  is_chosen state = nat_eq state 0 || win state

  abbrev chosen : List ℕ
  chosen = filter is_chosen (range_with_len 0 (length table))

  -- a state that is none does not accept
  won_below : (state : ℕ) → win state ≡ true → state < length table
  won_below state won = elim (cases_lt state (length table)) [
    | inl below ↦ below
    | inr past ↦
        absurd (true≢false (sym (can.greatest.safe.accepts state won) ∙ ap (λ (at : TableState). at.accepting) (get_or_past table state no_state past)))
  ]

  start_or : (state : ℕ) (first : Bool) → nat_eq state 0 ≡ first → (first || win state) ≡ true → IsStartOr (automaton_of table) win state
  start_or state true e either = inl (eqb-true state 0 e)
  start_or state false e either = inr either

  chosen_is : (state : ℕ) → Contains chosen state → IsStartOr (automaton_of table) win state
  chosen_is state there = start_or state (nat_eq state 0) refl (Contains-filter_cases is_chosen (range_with_len 0 (length table)) state there).1

  chosen_from : (state : ℕ) → IsStartOr (automaton_of table) win state → Contains chosen state
  chosen_from state (inl start) =
      Contains-filter is_chosen (range_with_len 0 (length table)) state (Contains-range (length table) state (omega (arith, is.nonempty)))
      (or_left (nat_eq state 0) (win state) (eq-eqb state 0 start))
  chosen_from state (inr won) =
      Contains-filter is_chosen (range_with_len 0 (length table)) state (Contains-range (length table) state (won_below state won))
      (or_right (nat_eq state 0) (win state) won)

  chosen_below : All (λ state. state < length table) chosen
  chosen_below =
      All-weaker (Contains chosen) (λ state. state < length table)
      (λ state there. Contains-range_cases (length table) state (Contains-filter_cases is_chosen (range_with_len 0 (length table)) state there).0)
      chosen (All-contains_itself chosen)

  -- ---- the two numbers

  abbrev next : ℕ → List Bool → ℕ
  next state input = (answer_of m (automaton_of table) win state input).0

  abbrev output : ℕ → List Bool → ℕ
  output state input = bits_of (answer_of m (automaton_of table) win state input).1

  abbrev least : ℕ → List Bool → List Bool
  least state input = (answer_of m (automaton_of table) win state input).1

  wide : (state : ℕ) (input : List Bool) → length (least state input) ≡ m
  wide state input = least-length m (λ output. win (next_in table state (input ++ output)))

  next_below : (state : ℕ) → state < length table → StaysBelow n (length table) next state
  next_below state below input size =
      let letter = input ++ least state input in
      let width : length letter ≡ n + m = omega (arith, length-append input (least state input), wide state input) in
      let row = (get_or table state no_state).row in
      let long : length row ≡ 2 ^ (n + m) = is.rows state no_state below in
      let few : bits_of letter < length row = subst (λ count. bits_of letter < count) (ap (λ k. 2 ^ k) width ∙ sym long) (bits_of-lt letter) in
      is.numbers state no_state below (bits_of letter) 0 few

  output_below : m ≤ 8 → (state : ℕ) → StaysBelow n 256 output state
  output_below few state input size =
      let digits : output state input < 2 ^ m = subst (λ k. output state input < 2 ^ k) (wide state input) (bits_of-lt (least state input)) in
      let most : 2 ^ m ≤ 2 ^ 8 = pow_mono few in
      omega (arith, digits, most)

  next_nodes : node_count n (tables_for n chosen next) ≤ node_count (n + m) (rows_of table)
  next_nodes = merged_rows_no_more n m (next_of m win) (next_merges m win) table is chosen chosen_below

  output_nodes : node_count n (tables_for n chosen output) ≤ node_count (n + m) (rows_of table)
  output_nodes = merged_rows_no_more n m (output_of m win) (output_merges m win) table is chosen chosen_below

  pub some_control : n ≤ 32 → m ≤ 8 → length table ≤ number_bound → node_count (n + m) (rows_of table) < 2 ^ 32
      → (control : ControlValue) × IsControlFor n m table control
  some_control narrow few small fits =
      let below : (state : ℕ) → state < length table → StaysBelow n number_bound next state = λ state inside input size. omega (arith, next_below state inside input size) in
      let all_below = All-weaker (λ state. state < length table) (StaysBelow n number_bound next) below chosen chosen_below in
      let (nexts, nexts_are) = some_rows n number_bound chosen next narrow all_below (omega (arith, next_nodes)) in
      let (outputs, outputs_are) = some_rows n 256 chosen output narrow (λ place d within. output_below few (get_or chosen place d)) (omega (arith, output_nodes)) in (
        record { states = chosen; next = nexts; output = outputs },
        record {
          is = record {
            in_order = AllPairs-filter (λ (one other : ℕ). one < other) is_chosen (range_with_len 0 (length table)) (range_in_order (length table));
            below = All-weaker (λ state. state < length table) (λ state. state < number_bound) (λ state inside. omega arith) chosen chosen_below;
            next = nexts_are.below;
            output = outputs_are.below;
            inputs = outputs_are.rows_of.slots ∙ sym nexts_are.rows_of.slots;
          };
          least = record {
            realisable = can;
            states = λ state. (chosen_is state, chosen_from state);
            in_order = AllPairs-filter (λ (one other : ℕ). one < other) is_chosen (range_with_len 0 (length table)) (range_in_order (length table));
            next = nexts_are.rows_of;
            output = outputs_are.rows_of;
          };
          inputs = nexts_are.rows_of.slots;
          next_nodes = omega (arith, nexts_are.nodes, next_nodes);
          output_nodes = omega (arith, outputs_are.nodes, output_nodes);
        },
      )
