-- There is one controller of least outputs, and one strategy of least moves.
use Rattle.std.proofs.Common.{◌≡◌, ℕ, zero, suc, ◌<◌, Bool, true, false, List, [], ◌∷◌, get_or, Contains, ◌↔◌, refl, ap, sym, ◌∙◌, subst, arith}
use Rattle.std.specs.List.{AllPairs}
use Rattle.std.proofs.lemmas.Option.{slice_get-get_or}
use Rattle.dcv_word.specs.Letter.{bits_of}
use Rattle.dcv_language.specs.Automaton.{Automaton}
use Rattle.dcv_synth.specs.Winning.{IsWin}
use Rattle.dcv_synth.specs.Play.{answer_of, IsStartOr}
use Rattle.dcv_synth.specs.Realisable.{IsRealisable}
use Rattle.dcv_synth.specs.Control.{RowsValue, AreRowsOf}
use Rattle.dcv_synth.specs.Laws.{AreTheSameRows, OneControlIsRight, OneStrategyIsRight}
use Rattle.dcv_synth.specs.declared.strategy.Move.{Move}
use Rattle.dcv_synth.proofs.Listed.{one_rank}

-- ---- lists in order with the same elements

module _ {X : Type 0} (key : X → ℕ) where
  abbrev InOrder : List X → Type 0
  InOrder xs = AllPairs (λ (one other : X). key one < key other) xs

  abbrev Within : List X → List X → Type 0
  Within xs ys = (x : X) → Contains xs x → Contains ys x

  rest_in_order : (x : X) (xs : List X) → InOrder (x ∷ xs) → InOrder xs
  rest_in_order x xs order i j d less within = order (suc i) (suc j) d (omega (arith, less)) (omega (arith, within))

  first_below : (x : X) (xs : List X) → InOrder (x ∷ xs) → (other : X) → Contains xs other → key x < key other
  first_below x xs order other (place, within, at) = subst (λ y. key x < key y) at (order zero (suc place) other (omega arith) (omega (arith, within)))

  -- the first is the first
  same_first : (x y : X) (xs ys : List X) → InOrder (x ∷ xs) → InOrder (y ∷ ys) → Contains (y ∷ ys) x → Contains (x ∷ xs) y → x ≡ y
  same_first x y xs ys one other (zero, within, at) there = sym at
  same_first x y xs ys one other (suc place, within, at) (zero, inside, is) = is
  same_first x y xs ys one other (suc place, within, at) (suc place', inside, is) =
      let above = first_below y ys other x (place, omega (arith, within), at) in
      let below = first_below x xs one y (place', omega (arith, inside), is) in
      absurd (omega (arith, above, below))

  same_rest : (x y : X) (xs ys : List X) → x ≡ y → InOrder (x ∷ xs) → Within (x ∷ xs) (y ∷ ys) → Within xs ys
  same_rest x y xs ys same order within other there = by (within other (suc there.0, omega (arith, there.1), there.2))
    where
      by : Contains (y ∷ ys) other → Contains ys other
      by (zero, inside, at) =
          let less = first_below x xs order other there in
          let key_is : key x ≡ key other = ap key (same ∙ at) in
          absurd (omega (arith, less, key_is))
      by (suc place, inside, at) = (place, omega (arith, inside), at)

  pub same_in_order : (xs ys : List X) → InOrder xs → InOrder ys → Within xs ys → Within ys xs → xs ≡ ys
  same_in_order [] [] one other to from = refl
  same_in_order [] (y ∷ ys) one other to from = let (place, within, at) = from y (zero, omega arith, refl) in absurd (omega (arith, within))
  same_in_order (x ∷ xs) [] one other to from = let (place, within, at) = to x (zero, omega arith, refl) in absurd (omega (arith, within))
  same_in_order (x ∷ xs) (y ∷ ys) one other to from =
      let first = same_first x y xs ys one other (to x (zero, omega arith, refl)) (from y (zero, omega arith, refl)) in
      let rest = same_in_order xs ys (rest_in_order x xs one) (rest_in_order y ys other) (same_rest x y xs ys first one to) (same_rest y x ys xs (sym first) other from) in
      λ i. first i ∷ rest i

-- ---- controllers

one_win : (n m : ℕ) (automaton : Automaton ℕ) (one other : ℕ → Bool) → IsWin n m automaton one → IsWin n m automaton other → (state : ℕ) → one state ≡ other state
one_win n m automaton one other a b state = by (one state) (other state) (b.greatest one a.safe state) (a.greatest other b.safe state)
  where
    by : (x y : Bool) → (x ≡ true → y ≡ true) → (y ≡ true → x ≡ true) → x ≡ y
    by true y f g = sym (f refl)
    by false true f g = g refl
    by false false f g = refl

module _ (n m : ℕ) (automaton : Automaton ℕ) (one other : IsRealisable n m automaton) where
  pub wins_are_one : ◌≡◌ {A = ℕ → Bool} one.win other.win
  wins_are_one = λ i state. one_win n m automaton one.win other.win one.greatest other.greatest state i

  -- the start, and the states of Win
  abbrev AreStates : (ℕ → Bool) → List ℕ → Type 0
  AreStates win states = (state : ℕ) → Contains states state ↔ IsStartOr automaton win state

  pub states_are_one : (states others : List ℕ) → InOrder (λ state. state) states → InOrder (λ state. state) others → AreStates one.win states → AreStates other.win others → states ≡ others
  states_are_one states others order its_order are its =
      same_in_order (λ state. state) states others order its_order
      (λ state there. (its state).1 (subst (λ win. IsStartOr automaton win state) wins_are_one ((are state).0 there)))
      (λ state there. (are state).1 (subst (λ win. IsStartOr automaton win state) (sym wins_are_one) ((its state).0 there)))

rows_are_one : (n : ℕ) (states : List ℕ) (f : ℕ → List Bool → ℕ) (one other : RowsValue) → AreRowsOf n states f one → AreRowsOf n states f other → AreTheSameRows n one other
rows_are_one n states f one other a b = record {
  count = a.count ∙ sym b.count;
  values = λ place input within width.
      let at = slice_get-get_or states place 0 (omega (arith, within, a.count)) in
      a.values place (get_or states place 0) input at width ∙ sym (b.values place (get_or states place 0) input at width);
}

pub one_control_is_right : OneControlIsRight
one_control_is_right n m automaton one other a b =
    let wins = wins_are_one n m automaton a.realisable b.realisable in
    let states = states_are_one n m automaton a.realisable b.realisable one.states other.states a.in_order b.in_order a.states b.states in
    record {
      states = states;
      next = rows_are_one n other.states (λ state input. (answer_of m automaton b.realisable.win state input).0) one.next other.next
          (subst (λ (parts : List ℕ × (ℕ → Bool)). AreRowsOf n parts.0 (λ state input. (answer_of m automaton parts.1 state input).0) one.next) (λ i. (states i, wins i)) a.next) b.next;
      output = rows_are_one n other.states (λ state input. bits_of (answer_of m automaton b.realisable.win state input).1) one.output other.output
          (subst (λ (parts : List ℕ × (ℕ → Bool)). AreRowsOf n parts.0 (λ state input. bits_of (answer_of m automaton parts.1 state input).1) one.output) (λ i. (states i, wins i)) a.output)
          b.output;
    }

pub one_strategy_is_right : OneStrategyIsRight
one_strategy_is_right n m automaton one other a b = (
  one_rank n m automaton automaton.start one.bound other.bound a.bound b.bound,
  same_in_order (λ (move : Move). move.state) one.moves.items other.moves.items a.moves.in_order b.moves.in_order
      (λ move there. (b.moves.each move).1 ((a.moves.each move).0 there))
      (λ move there. (a.moves.each move).1 ((b.moves.each move).0 there)),
)
