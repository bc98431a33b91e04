-- Automata that go on alike at the letters over some variables.
--     GoOnAlike k one other     they begin in one state, accept in the same states, and each letter over k variables leads on to the same
use Rattle.std.specs.Prelude.{◌≡◌, ℕ, Bool, List, length}
use Rattle.dcv_language.specs.Automaton.{Automaton}

pub record GoOnAlike (k : ℕ) (one other : Automaton ℕ) : Type 0 where
  pub start : one.start ≡ other.start
  pub flags : (state : ℕ) → one.accepting state ≡ other.accepting state
  pub steps : (state : ℕ) (letter : List Bool) → length letter ≡ k → one.next state letter ≡ other.next state letter
