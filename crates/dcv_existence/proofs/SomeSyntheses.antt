-- Of each table one side has its answer.
--     some_synthesis      the table's automaton can be held for ever, or it has a strategy of least moves
use Rattle.std.proofs.Common.{◌≡◌, ◌⊎◌, inl, inr, ℕ, ◌<◌, ◌≤◌, ◌^◌, false, length, ap, arith}
use Rattle.std.proofs.lemmas.List.{get_or_past}
use Rattle.dcv_language.specs.Table.{Table, TableState, no_state, is_accepting, automaton_of}
use Rattle.dcv_synth.specs.Laws.{HeldStatesAreNotBeaten, UnbeatenStatesAreWin, UnbeatenStatesAreHeld}
use Rattle.dcv_synth.specs.Outcome.{IsUnrealisable}
use Rattle.dcv_synth.specs.Realisable.{IsRealisable}
use Rattle.dcv_synth.specs.Winning.{IsRank}
use Rattle.dcv_synth.specs.declared.strategy.Strategy.{Strategy}
use Rattle.dcv_existence.proofs.SomeVectors.{vector_of}
use Rattle.dcv_existence.proofs.SomeWinners.{some_winner, some_moves}

module _ (not_beaten : HeldStatesAreNotBeaten) (win : UnbeatenStatesAreWin) (held : UnbeatenStatesAreHeld) where
  module _ (n m : ℕ) (table : Table) (some : 0 < length table) where
    rejects : (state : ℕ) → length table ≤ state → is_accepting table state ≡ false
    rejects state past = ap (λ (s : TableState). s.accepting) (get_or_past table state no_state past)

    strategy_of_rank : length table < 2 ^ 63 → (rank : ℕ) → IsRank n m (automaton_of table) 0 rank
        → (strategy : Strategy) × IsUnrealisable n m (automaton_of table) strategy
    strategy_of_rank few rank is =
        let (moves, (are, short)) = some_moves n m (automaton_of table) (length table) rejects not_beaten win held rank is some in
        let within : length moves < 2 ^ 63 = omega arith in
        (record { bound = rank; moves = vector_of moves within }, record { bound = is; moves = are })

    pub some_synthesis : length table < 2 ^ 63
        → IsRealisable n m (automaton_of table) ⊎ ((strategy : Strategy) × IsUnrealisable n m (automaton_of table) strategy)
    some_synthesis few = elim (some_winner n m (automaton_of table) (length table) rejects not_beaten win held) [
      | inl realisable ↦ inl realisable
      | inr ranked ↦ inr (strategy_of_rank few ranked.0 ranked.1)
    ]
