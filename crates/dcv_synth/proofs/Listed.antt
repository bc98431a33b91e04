-- Moves that are listed state by state, and the environment that plays them.
use Rattle.std.proofs.Common.{◌≡◌, ⊎_elim, ℕ, zero, suc, ◌+◌, ◌<◌, ◌≤◌, ltb, eqb, cond, Bool, true, false, List, [], ◌∷◌, ◌++◌, length, get_or, Option, Some, None, Contains, refl, ap, sym, ◌∙◌, subst, arith}
use Rattle.std.proofs.lemmas.Bool.{true≢false, ltb-true, ltb-false, eqb-true, eq-eqb}
use Rattle.std.proofs.lemmas.List.{length-replicate}
use Rattle.std.proofs.lemmas.List.Elements.{Contains-push, Contains-push_cases, Contains-append_left, Contains-get_or}
use Rattle.std.proofs.lemmas.List.Quantifiers.{all_pairs_push}
use Rattle.dcv_language.specs.Automaton.{Automaton}
use Rattle.dcv_synth.specs.Winning.{is_losing, is_beaten, IsRank, move_of}
use Rattle.dcv_synth.specs.Play.{MovesSo}
use Rattle.dcv_synth.specs.Moves.{IsMove, AreMoves, input_at}
use Rattle.dcv_synth.specs.Listing.{AreMovesBelow, IsMoveAt, with_move}
use Rattle.dcv_synth.specs.declared.strategy.Move.{Move}
use Rattle.dcv_synth.proofs.Tracks.{least-length}

module _ (n m : ℕ) (automaton : Automaton ℕ) where
  pub one_rank : (state one other : ℕ) → IsRank n m automaton state one → IsRank n m automaton state other → one ≡ other
  one_rank state one other a b = by (ltb one other) (ltb other one) refl refl
    where
      by : (x y : Bool) → ltb one other ≡ x → ltb other one ≡ y → one ≡ other
      by true y e f = absurd (true≢false (sym a.beaten ∙ b.least one (ltb-true one other e)))
      by false true e f = absurd (true≢false (sym b.beaten ∙ a.least other (ltb-true other one f)))
      by false false e f = omega (arith, ltb-false one other e, ltb-false other one f)

  pub one_move : (one other : Move) → IsMove n m automaton one → IsMove n m automaton other → one.state ≡ other.state → one ≡ other
  one_move one other a b e =
      let rank : one.rank ≡ other.rank = one_rank other.state one.rank other.rank (subst (λ state. IsRank n m automaton state one.rank) e a.ranked) b.ranked in
      let input : one.input ≡ other.input = a.least ∙ (λ i. move_of n m automaton (rank i) (e i)) ∙ sym b.least in
      λ i. record { state = e i; rank = rank i; input = input i }

  pub none_listed : AreMovesBelow n m automaton 0 []
  none_listed = record {
    only = λ move there. absurd (empty move there);
    all = λ move is less. absurd (omega (arith, less));
    in_order = λ i j d less within. absurd (omega (arith, within));
  }
    where
      empty : (move : Move) → Contains [] move → ⊥
      empty move (place, within, at) = absurd (omega (arith, within))

  pub listed_more : (state : ℕ) (moves : List Move) (found : Option Move) → AreMovesBelow n m automaton state moves → IsMoveAt n m automaton state found
      → AreMovesBelow n m automaton (state + 1) (with_move moves found)
  listed_more state moves None are none = record {
    only = λ move there. let is = are.only move there in (is.0, omega (arith, is.1));
    all = λ move is less. by move is less (ltb move.state state) refl;
    in_order = are.in_order;
  }
    where
      by : (move : Move) → IsMove n m automaton move → move.state < state + 1 → (b : Bool) → ltb move.state state ≡ b → Contains moves move
      by move is less true e = are.all move is (ltb-true move.state state e)
      by move is less false e = absurd (none move (omega (arith, less, ltb-false move.state state e)) is)
  listed_more state moves (Some new) are (is, at) = record {
    only = λ move there. ⊎_elim (λ before. let old = are.only move before in (old.0, omega (arith, old.1)))
        (λ same. (subst (IsMove n m automaton) same is, omega (arith, ap (λ (x : Move). x.state) same, at))) (Contains-push_cases moves new move there);
    all = λ move its less. by move its less (ltb move.state state) refl;
    in_order = all_pairs_push (λ (one other : Move). one.state < other.state) moves new are.in_order earlier;
  }
    where
      earlier : (place : ℕ) (default : Move) → place < length moves → (get_or moves place default).state < new.state
      earlier place default within =
          let before = (are.only (get_or moves place default) (Contains-get_or moves place default within)).1 in
          omega (arith, before, at)

      by : (move : Move) → IsMove n m automaton move → move.state < state + 1 → (b : Bool) → ltb move.state state ≡ b → Contains (moves ++ new ∷ []) move
      by move its less true e = Contains-append_left moves (new ∷ []) move (are.all move its (ltb-true move.state state e))
      by move its less false e =
          let same : new.state ≡ move.state = omega (arith, less, at, ltb-false move.state state e) in
          subst (Contains (moves ++ new ∷ [])) (one_move new move is its same) (Contains-push moves new)

  -- ---- the environment

  move_is_wide : (rank state : ℕ) → length (move_of n m automaton rank state) ≡ n
  move_is_wide zero state = least-length n (λ input. false)
  move_is_wide (suc bound) state = least-length n (is_losing m automaton (is_beaten n m automaton bound) state)

  input_of_listed : (moves : List Move) (place : ℕ) (move : Move) → ((other : Move) → Contains moves other → IsMove n m automaton other) → IsMove n m automaton move
      → place < length moves → get_or moves place move ≡ move → input_at n moves move.state ≡ move.input
  input_of_listed [] place move only is within at = absurd (omega (arith, within))
  input_of_listed (first ∷ moves) place move only is within at =
      by (eqb first.state move.state) refl place within at (λ later less there. input_of_listed moves later move rest is less there)
    where
      first_is : IsMove n m automaton first
      first_is = only first (0, omega arith, refl)

      rest : (other : Move) → Contains moves other → IsMove n m automaton other
      rest other there = only other (suc there.0, omega (arith, there.1), there.2)

      by : (b : Bool) → eqb first.state move.state ≡ b → (place : ℕ) → place < length (first ∷ moves) → get_or (first ∷ moves) place move ≡ move
          → ((later : ℕ) → later < length moves → get_or moves later move ≡ move → input_at n moves move.state ≡ move.input)
          → cond (eqb first.state move.state) first.input (input_at n moves move.state) ≡ move.input
      by true e place within at go =
          ap (λ x. cond x first.input (input_at n moves move.state)) e ∙ ap (λ (x : Move). x.input) (one_move first move first_is is (eqb-true first.state move.state e))
      by false e zero within at go = absurd (true≢false (sym (eq-eqb first.state move.state (ap (λ (x : Move). x.state) at)) ∙ e))
      by false e (suc place) within at go =
          ap (λ x. cond x first.input (input_at n moves move.state)) e ∙ go place (omega (arith, within)) at

  inputs_are_wide : (moves : List Move) (state : ℕ) → ((other : Move) → Contains moves other → IsMove n m automaton other) → length (input_at n moves state) ≡ n
  inputs_are_wide [] state only = length-replicate n false
  inputs_are_wide (first ∷ moves) state only =
      by (eqb first.state state) (inputs_are_wide moves state (λ other there. only other (suc there.0, omega (arith, there.1), there.2)))
    where
      first_is : IsMove n m automaton first
      first_is = only first (0, omega arith, refl)

      by : (b : Bool) → length (input_at n moves state) ≡ n → length (cond b first.input (input_at n moves state)) ≡ n
      by true go = ap length first_is.least ∙ move_is_wide first.rank first.state
      by false go = go

  -- playing what is listed is playing the least moves
  pub listed_moves_so : (moves : List Move) → AreMoves n m automaton moves → MovesSo n m automaton (input_at n moves)
  listed_moves_so moves are = record {
    width = λ state. inputs_are_wide moves state only;
    least = λ state rank from ranked.
        let move : Move = record { state = state; rank = rank; input = move_of n m automaton rank state } in
        let is : IsMove n m automaton move = record { from = from; ranked = ranked; least = refl } in
        let there = (are.each move).1 is in
        input_of_listed moves there.0 move only is there.1 there.2;
  }
    where
      only : (other : Move) → Contains moves other → IsMove n m automaton other
      only other there = (are.each other).0 there

  -- no state beyond the last has a move
  pub all_listed : (states : ℕ) (moves : List Move) → automaton.start < states → ((state : ℕ) → states ≤ state → automaton.accepting state ≡ false)
      → AreMovesBelow n m automaton states moves → AreMoves n m automaton moves
  all_listed states moves starts rejects are = record {
    each = λ move. ((λ there. (are.only move there).0), (λ is. are.all move is (within move is)));
    in_order = are.in_order;
  }
    where
      within : (move : Move) → IsMove n m automaton move → move.state < states
      within move is = by (ltb move.state states) refl
        where
          by : (b : Bool) → ltb move.state states ≡ b → move.state < states
          by true e = ltb-true move.state states e
          by false e =
              ⊎_elim (λ same. omega (arith, same, starts))
              (λ accepting. absurd (true≢false (sym accepting ∙ rejects move.state (ltb-false move.state states e)))) is.from
