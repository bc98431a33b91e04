-- Who wins from the states of an automaton whose letters have n inputs and then m outputs.
--     leads automaton state input output      the state that comes next
--     is_held n m automaton set state         for each input some output leads into the set
--     IsSafe n m automaton set                states that accept, each held by the set
--     IsWin n m automaton win                 the greatest such set
--     is_beaten n m automaton bound state     for some input each output leads to a state that rejects, or is beaten within one letter less
--     IsRank n m automaton state rank         the least number of letters within which it is beaten
--     move_of n m automaton rank state        the least input by which it is beaten within its rank
--     output_of m automaton win state input   the least output that leads into the set
use Rattle.std.specs.Prelude.{ℕ, zero, suc, ◌<◌, Bool, false, not, ◌||◌, List, ◌++◌, IsTrue, IsFalse}
use Rattle.dcv_language.specs.Automaton.{Automaton}
use Rattle.dcv_language.specs.Operations.{some_track}
use Rattle.dcv_synth.specs.Tracks.{each_track, least_track}

abbrev pub leads : Automaton ℕ → ℕ → List Bool → List Bool → ℕ
leads automaton state input output = automaton.next state (input ++ output)

-- ---- the states from which a controller holds out for ever

abbrev pub is_answered : ℕ → Automaton ℕ → (ℕ → Bool) → ℕ → List Bool → Bool
is_answered m automaton set state input = some_track m (λ output. set (leads automaton state input output))

abbrev pub is_held : ℕ → ℕ → Automaton ℕ → (ℕ → Bool) → ℕ → Bool
is_held n m automaton set state = each_track n (is_answered m automaton set state)

pub record IsSafe (n m : ℕ) (automaton : Automaton ℕ) (set : ℕ → Bool) : Type 0 where
  pub accepts : (state : ℕ) → IsTrue (set state) → IsTrue (automaton.accepting state)
  pub held : (state : ℕ) → IsTrue (set state) → IsTrue (is_held n m automaton set state)

pub record IsWin (n m : ℕ) (automaton : Automaton ℕ) (win : ℕ → Bool) : Type 0 where
  pub safe : IsSafe n m automaton win
  pub greatest : (set : ℕ → Bool) → IsSafe n m automaton set → (state : ℕ) → IsTrue (set state) → IsTrue (win state)

-- ---- the states from which the environment wins

abbrev pub is_lost : Automaton ℕ → (ℕ → Bool) → ℕ → Bool
is_lost automaton beaten state = not (automaton.accepting state) || beaten state

abbrev pub is_losing : ℕ → Automaton ℕ → (ℕ → Bool) → ℕ → List Bool → Bool
is_losing m automaton beaten state input = each_track m (λ output. is_lost automaton beaten (leads automaton state input output))

abbrev pub is_beaten : ℕ → ℕ → Automaton ℕ → ℕ → ℕ → Bool
is_beaten n m automaton zero state = false
is_beaten n m automaton (suc bound) state = some_track n (is_losing m automaton (is_beaten n m automaton bound) state)

pub record IsRank (n m : ℕ) (automaton : Automaton ℕ) (state rank : ℕ) : Type 0 where
  pub beaten : IsTrue (is_beaten n m automaton rank state)
  pub least : (other : ℕ) → other < rank → IsFalse (is_beaten n m automaton other state)

-- ---- what both do

-- (no state has rank 0)
abbrev pub move_of : ℕ → ℕ → Automaton ℕ → ℕ → ℕ → List Bool
move_of n m automaton zero state = least_track n (λ input. false)
move_of n m automaton (suc bound) state = least_track n (is_losing m automaton (is_beaten n m automaton bound) state)

abbrev pub output_of : ℕ → Automaton ℕ → (ℕ → Bool) → ℕ → List Bool → List Bool
output_of m automaton win state input = least_track m (λ output. win (leads automaton state input output))
