-- Automata that go on alike have the same controllers and the same strategies, and a raw automaton goes on as its table does.
use Rattle.std.proofs.Common.{◌≡◌, ◌⊎◌, inl, inr, ◌↔◌, ℕ, zero, suc, ◌+◌, ltb, Bool, true, false, List, [], ◌∷◌, ◌++◌, length, Contains, refl, ap, sym, ◌∙◌, subst, arith, length-append}
use Rattle.std.specs.Prelude.{◌&&◌, ◌||◌, not, IsTrue, if◌then◌else◌, slice_index_or}
use Rattle.std.proofs.lemmas.Bool.{ltb-true, ltb-false}
use Rattle.std.proofs.lemmas.List.{get_or_past}
use Rattle.dcv_word.specs.Letter.{bits_of}
use Rattle.dcv_language.specs.Automaton.{Automaton}
use Rattle.dcv_language.specs.Table.{no_state, automaton_of as table_automaton}
use Rattle.dcv_language.proofs.Behaviours.{some_track-same}
use Rattle.dcv_arena.specs.Arena.{value_of}
use Rattle.dcv_arena.specs.declared.nodes.Ref.TheVariants.{Leaf}
use Rattle.dcv_dfa.specs.Raw.{automaton_of}
use Rattle.dcv_dfa.specs.Auto.{table_of_states}
use Rattle.dcv_dfa.specs.Laws.{TableHasTheStates, TableHasTheFlags, TableHasTheSteps}
use Rattle.dcv_synth.specs.Tracks.{each_track, least_track}
use Rattle.dcv_synth.specs.Winning.{leads, is_answered, is_held, IsSafe, IsWin, is_lost, is_losing, is_beaten, IsRank, move_of, output_of}
use Rattle.dcv_synth.specs.Play.{answer_of, IsStartOr}
use Rattle.dcv_synth.specs.Moves.{IsMove, AreMoves}
use Rattle.dcv_synth.specs.Realisable.{IsRealisable}
use Rattle.dcv_synth.specs.Control.{RowsValue, AreRowsOf}
use Rattle.dcv_synth.specs.SameSteps.{GoOnAlike}
use Rattle.dcv_synth.specs.Laws.{ControlsOfLikeAutomata, StrategiesOfLikeAutomata, TablesGoOnAlike}
use Rattle.dcv_synth.specs.declared.strategy.Move.{Move}
use Rattle.dcv_synth.proofs.Tracks.{least-length}

-- ---- searches of the same

each_track-same : (n : ℕ) (p q : List Bool → Bool) → ((track : List Bool) → length track ≡ n → p track ≡ q track) → each_track n p ≡ each_track n q
each_track-same zero p q h = h [] refl
each_track-same (suc n) p q h =
    let one = each_track-same n (λ track. p (false ∷ track)) (λ track. q (false ∷ track)) (λ track e. h (false ∷ track) (ap suc e)) in
    let two = each_track-same n (λ track. p (true ∷ track)) (λ track. q (true ∷ track)) (λ track e. h (true ∷ track) (ap suc e)) in
    λ i. one i && two i

least_track-same : (n : ℕ) (p q : List Bool → Bool) → ((track : List Bool) → length track ≡ n → p track ≡ q track) → least_track n p ≡ least_track n q
least_track-same zero p q h = refl
least_track-same (suc n) p q h =
    let some = some_track-same n (λ track. p (false ∷ track)) (λ track. q (false ∷ track)) (λ track e. h (false ∷ track) (ap suc e)) in
    let one = least_track-same n (λ track. p (false ∷ track)) (λ track. q (false ∷ track)) (λ track e. h (false ∷ track) (ap suc e)) in
    let two = least_track-same n (λ track. p (true ∷ track)) (λ track. q (true ∷ track)) (λ track e. h (true ∷ track) (ap suc e)) in
    λ i. if some i then false ∷ one i else true ∷ two i

flip : (k : ℕ) (one other : Automaton ℕ) → GoOnAlike k one other → GoOnAlike k other one
flip k one other alike = record {
  start = sym alike.start;
  flags = λ state. sym (alike.flags state);
  steps = λ state letter width. sym (alike.steps state letter width);
}

-- ---- controllers

module _ (n m : ℕ) (one other : Automaton ℕ) (alike : GoOnAlike (n + m) one other) where
  leads_same : (state : ℕ) (input output : List Bool) → length input ≡ n → length output ≡ m → leads one state input output ≡ leads other state input output
  leads_same state input output wide also = alike.steps state (input ++ output) (omega (arith, length-append input output, wide, also))

  held_same : (set : ℕ → Bool) (state : ℕ) → is_held n m one set state ≡ is_held n m other set state
  held_same set state =
      each_track-same n (is_answered m one set state) (is_answered m other set state)
      (λ input wide. some_track-same m (λ output. set (leads one state input output)) (λ output. set (leads other state input output))
      (λ output also. ap set (leads_same state input output wide also)))

  safe_alike : (set : ℕ → Bool) → IsSafe n m one set → IsSafe n m other set
  safe_alike set safe = record {
    accepts = λ state within. sym (alike.flags state) ∙ safe.accepts state within;
    held = λ state within. sym (held_same set state) ∙ safe.held state within;
  }

  answer_same : (win : ℕ → Bool) (state : ℕ) (input : List Bool) → length input ≡ n → answer_of m one win state input ≡ answer_of m other win state input
  answer_same win state input wide =
      let output : output_of m one win state input ≡ output_of m other win state input =
      least_track-same m (λ output. win (leads one state input output)) (λ output. win (leads other state input output))
      (λ output also. ap win (leads_same state input output wide also)) in
      let next : leads one state input (output_of m one win state input) ≡ leads other state input (output_of m other win state input) =
      leads_same state input (output_of m one win state input) wide (least-length m (λ output. win (leads one state input output))) ∙ ap (leads other state input) output in
      λ i. (next i, output i)

win_alike : (n m : ℕ) (one other : Automaton ℕ) → GoOnAlike (n + m) one other → (win : ℕ → Bool) → IsWin n m one win → IsWin n m other win
win_alike n m one other alike win is = record {
  safe = safe_alike n m one other alike win is.safe;
  greatest = λ set safe. is.greatest set (safe_alike n m other one (flip (n + m) one other alike) set safe);
}

abbrev realisable_alike : (n m : ℕ) (one other : Automaton ℕ) → GoOnAlike (n + m) one other → IsRealisable n m one → IsRealisable n m other
realisable_alike n m one other alike is = record {
  win = is.win;
  greatest = win_alike n m one other alike is.win is.greatest;
  held = ap (is_held n m other is.win) (sym alike.start) ∙ sym (held_same n m one other alike is.win one.start) ∙ is.held;
}

rows_alike : (n : ℕ) (states : List ℕ) (f g : ℕ → List Bool → ℕ) (rows : RowsValue) → ((state : ℕ) (input : List Bool) → length input ≡ n → f state input ≡ g state input)
    → AreRowsOf n states f rows → AreRowsOf n states g rows
rows_alike n states f g rows same are = record {
  slots = are.slots;
  count = are.count;
  values = λ place state input at wide. are.values place state input at wide ∙ same state input wide;
}

pub controls_of_like_automata : ControlsOfLikeAutomata
controls_of_like_automata n m one other control alike is =
    let win = is.realisable.win in
    record {
      realisable = realisable_alike n m one other alike is.realisable;
      states = λ state. subst (λ start. Contains control.states state ↔ ((state ≡ start) ⊎ IsTrue (win state))) alike.start (is.states state);
      in_order = is.in_order;
      next = rows_alike n control.states (λ state input. (answer_of m one win state input).0) (λ state input. (answer_of m other win state input).0) control.next
          (λ state input wide. ap (λ (answer : ℕ × List Bool). answer.0) (answer_same n m one other alike win state input wide)) is.next;
      output = rows_alike n control.states (λ state input. bits_of (answer_of m one win state input).1) (λ state input. bits_of (answer_of m other win state input).1) control.output
          (λ state input wide. ap (λ (answer : ℕ × List Bool). bits_of answer.1) (answer_same n m one other alike win state input wide)) is.output;
    }

-- ---- strategies

module _ (n m : ℕ) (one other : Automaton ℕ) (alike : GoOnAlike (n + m) one other) where
  losing_same : (beaten also_beaten : ℕ → Bool) → ((state : ℕ) → beaten state ≡ also_beaten state) → (state : ℕ) (input : List Bool) → length input ≡ n
      → is_losing m one beaten state input ≡ is_losing m other also_beaten state input
  losing_same beaten also_beaten same state input wide =
      each_track-same m (λ output. is_lost one beaten (leads one state input output)) (λ output. is_lost other also_beaten (leads other state input output))
      (λ output also. lost (leads one state input output) ∙ ap (is_lost other also_beaten) (leads_same n m one other alike state input output wide also))
    where
      lost : (next : ℕ) → is_lost one beaten next ≡ is_lost other also_beaten next
      lost next = λ i. not (alike.flags next i) || same next i

  beaten_same : (bound state : ℕ) → is_beaten n m one bound state ≡ is_beaten n m other bound state
  beaten_same zero state = refl
  beaten_same (suc bound) state =
      some_track-same n (is_losing m one (is_beaten n m one bound) state) (is_losing m other (is_beaten n m other bound) state)
      (losing_same (is_beaten n m one bound) (is_beaten n m other bound) (beaten_same bound) state)

  rank_alike : (state rank : ℕ) → IsRank n m one state rank → IsRank n m other state rank
  rank_alike state rank is = record {
    beaten = sym (beaten_same rank state) ∙ is.beaten;
    least = λ bound below. sym (beaten_same bound state) ∙ is.least bound below;
  }

  move_same : (rank state : ℕ) → move_of n m one rank state ≡ move_of n m other rank state
  move_same zero state = refl
  move_same (suc bound) state =
      least_track-same n (is_losing m one (is_beaten n m one bound) state) (is_losing m other (is_beaten n m other bound) state)
      (losing_same (is_beaten n m one bound) (is_beaten n m other bound) (beaten_same bound) state)

  from_alike : (state : ℕ) → IsStartOr one one.accepting state → IsStartOr other other.accepting state
  from_alike state (inl start) = inl (start ∙ alike.start)
  from_alike state (inr accepts) = inr (sym (alike.flags state) ∙ accepts)

  move_alike : (move : Move) → IsMove n m one move → IsMove n m other move
  move_alike move is = record {
    from = from_alike move.state is.from;
    ranked = rank_alike move.state move.rank is.ranked;
    least = is.least ∙ move_same move.rank move.state;
  }

moves_alike : (n m : ℕ) (one other : Automaton ℕ) → GoOnAlike (n + m) one other → (moves : List Move) → AreMoves n m one moves → AreMoves n m other moves
moves_alike n m one other alike moves are = record {
  each = λ move. (
    λ there. move_alike n m one other alike move ((are.each move).0 there),
    λ is. (are.each move).1 (move_alike n m other one (flip (n + m) one other alike) move is),
  );
  in_order = are.in_order;
}

pub strategies_of_like_automata : StrategiesOfLikeAutomata
strategies_of_like_automata n m one other strategy alike is = record {
  bound = subst (λ start. IsRank n m other start strategy.bound) alike.start (rank_alike n m one other alike one.start strategy.bound is.bound);
  moves = moves_alike n m one other alike strategy.moves.items is.moves;
}

-- ---- tables

module _ (count : TableHasTheStates) (flags : TableHasTheFlags) (steps : TableHasTheSteps) where
  -- a number that is no state rejects, and leads to state 0
  pub tables_go_on_alike : TablesGoOnAlike
  tables_go_on_alike raw is start = record {
    start = start;
    flags = λ state. flag state (ltb state (length raw.rows)) refl;
    steps = λ state letter wide. step state letter wide (ltb state (length raw.rows)) refl;
  }
    where
      flag : (state : ℕ) (below : Bool) → ltb state (length raw.rows) ≡ below
          → (automaton_of raw).accepting state ≡ (table_automaton (table_of_states raw)).accepting state
      flag state true e = sym (flags raw state (ltb-true state (length raw.rows) e))
      flag state false e =
          let past = ltb-false state (length raw.rows) e in
          get_or_past raw.accepting state false (omega (arith, past, is.flags))
          ∙ sym (ap (λ at. at.accepting) (get_or_past (table_of_states raw) state no_state (omega (arith, past, count raw))))

      step : (state : ℕ) (letter : List Bool) → length letter ≡ raw.arena.slots → (below : Bool) → ltb state (length raw.rows) ≡ below
          → (automaton_of raw).next state letter ≡ (table_automaton (table_of_states raw)).next state letter
      step state letter wide true e = sym (steps raw state letter (ltb-true state (length raw.rows) e) wide)
      step state letter wide false e =
          let past = ltb-false state (length raw.rows) e in
          ap (λ row. value_of raw.arena row letter) (get_or_past raw.rows state (Leaf 0) (omega arith))
          ∙ sym (ap (λ at. slice_index_or at.row (bits_of letter) 0) (get_or_past (table_of_states raw) state no_state (omega (arith, past, count raw))))
