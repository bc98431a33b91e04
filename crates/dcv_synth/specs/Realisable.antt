-- Who wins from the start.
--     IsRealisable n m automaton    each first input can be answered by an output that leads into Win
use Rattle.std.specs.Prelude.{ℕ, Bool, IsTrue}
use Rattle.dcv_language.specs.Automaton.{Automaton}
use Rattle.dcv_synth.specs.Winning.{IsWin, is_held}

pub record IsRealisable (n m : ℕ) (automaton : Automaton ℕ) : Type 0 where
  pub win : ℕ → Bool
  pub greatest : IsWin n m automaton win
  pub held : IsTrue (is_held n m automaton win automaton.start)
