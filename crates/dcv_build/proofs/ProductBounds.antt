-- A product has no more states than there are pairs of its operands' states, and no more nodes than pairs of parts of their rows. So the
-- operands tell that it cannot exceed limits.
--     product_cannot_exceed     it cannot, where these numbers of pairs are within them
use Rattle.std.proofs.Common.{◌≡◌, ℕ, ◌*◌, ◌<◌, ◌≤◌, Bool, ◌&&◌, nat_eq, List, length, map, Contains, ap, ◌∙◌, arith}
use Rattle.std.specs.Bool.{Decides}
use Rattle.std.specs.Cmp.{unsigned_Decides}
use Rattle.std.specs.List.{range_with_len}
use Rattle.std.proofs.lemmas.Bool.Decides.{Decides-and}
use Rattle.std.proofs.lemmas.List.Elements.{All-contains}
use Rattle.std.proofs.lemmas.List.FromFn.{length-range_with_len}
use Rattle.dcv_arena.proofs.Members.{Contains-map_cases, Contains-range}
use Rattle.dcv_language.specs.Automaton.{WorkingMachine, IsReached}
use Rattle.dcv_language.specs.OperationMachines.{pair_machine}
use Rattle.dcv_language.specs.Table.{automaton_of}
use Rattle.dcv_language.proofs.Runs.{reached_has}
use Rattle.dcv_dfa.specs.Table.{HasStates}
use Rattle.dcv_shelf.specs.Stored.{ViewValue, view_table}
use Rattle.dcv_explore.specs.declared.explorer.Limits.{Limits}
use Rattle.dcv_explore.specs.Reached.{AreReached, IsNumbering, row_table, row_nodes}
use Rattle.dcv_build.specs.Bounds.{CannotExceed, HasNodesBefore, states_of}
use Rattle.dcv_build.specs.Numbers.{number_of_pair, pairs_apart}
use Rattle.dcv_build.proofs.ProductNodes.{products, length-products, Contains-products, no_more}
use Rattle.dcv_build.proofs.SlotNodes.{joined_no_more}

same_pair : (a b : ℕ × ℕ) → Decides (nat_eq a.0 b.0 && nat_eq a.1 b.1) (a ≡ b)
same_pair a b =
    let parts = Decides-and (nat_eq a.0 b.0) (nat_eq a.1 b.1) (unsigned_Decides a.0 b.0) (unsigned_Decides a.1 b.1) in
    (λ t. let p = parts.0 t in λ i. (p.0 i, p.1 i), λ e. parts.1 (ap (λ pair. pair.0) e, ap (λ pair. pair.1) e))

module _ (one other : ViewValue) (slots : one.stored.slots ≡ other.stored.slots)
    (is : HasStates (automaton_of (view_table one).table) one.stored.slots (states_of one)) (are : HasStates (automaton_of (view_table other).table) one.stored.slots (states_of other))
    (join : Bool → Bool → Bool) where
  abbrev machine : WorkingMachine (ℕ × ℕ)
  machine = pair_machine one.stored.slots join (automaton_of (view_table one).table) (automaton_of (view_table other).table)

  -- ---- states

  abbrev IsPair : ℕ × ℕ → Type 0
  IsPair state = (state.0 < states_of one) × (state.1 < states_of other)

  pair_reached : (list : List (ℕ × ℕ)) → AreReached machine list → (state : ℕ × ℕ) → Contains list state → IsPair state
  pair_reached list reached state there =
      reached_has machine IsPair (is.start, are.start)
      (λ state letter width pair. (is.steps state.0 letter pair.0 width, are.steps state.1 letter pair.1 width))
      state (All-contains (IsReached machine) list state reached.reached there)

  abbrev beside : ℕ → ℕ → ℕ × ℕ
  beside one other = (one, other)

  abbrev firsts : List ℕ
  firsts = range_with_len 0 (states_of one)

  abbrev seconds : List ℕ
  seconds = range_with_len 0 (states_of other)

  few_states : (list : List (ℕ × ℕ)) → AreReached machine list → length list ≤ states_of one * states_of other
  few_states list reached =
      let few = no_more same_pair list (products beside firsts seconds) reached.once (λ state there.
      let pair = pair_reached list reached state there in
      Contains-products beside firsts seconds state.0 state.1 (Contains-range (states_of one) state.0 pair.0) (Contains-range (states_of other) state.1 pair.1)) in
      let count : length (products beside firsts seconds) ≡ states_of one * states_of other =
      length-products beside firsts seconds ∙ (λ i. length-range_with_len 0 (states_of one) i * length-range_with_len 0 (states_of other) i) in
      omega (arith, few, count)

  -- ---- nodes

  abbrev number : ℕ × ℕ → ℕ
  number state = number_of_pair state.0 state.1

  numbering : IsNumbering machine number
  numbering state another here there same = let parts = pairs_apart state.0 state.1 another.0 another.1 same in λ i. (parts.0 i, parts.1 i)

  few_nodes : (most : ℕ) → HasNodesBefore one other one.stored.slots most → (list : List (ℕ × ℕ)) → AreReached machine list → row_nodes machine number list ≤ most
  few_nodes most has list reached =
      joined_no_more one other slots most has (map (row_table machine number) list) (λ row there.
      let from = Contains-map_cases (row_table machine number) list row there in
      let pair = pair_reached list reached from.0 from.1 in
      record { state = from.0.0; another = from.0.1; below = pair.0; second = pair.1; numbers = from.2 })

  pub product_cannot_exceed : (limits : Limits) → states_of one * states_of other ≤ limits.states → HasNodesBefore one other one.stored.slots limits.nodes → CannotExceed machine limits
  product_cannot_exceed limits states nodes = (
    (λ more. let few = few_states more.list more.are_reached in omega (arith, states, few, more.more)),
    (λ more. let few = few_nodes limits.nodes nodes more.list more.are_reached in let many = more.more number numbering in omega (arith, few, many)),
  )
