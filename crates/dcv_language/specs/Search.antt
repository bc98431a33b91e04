-- What a breadth-first search establishes, where it goes through states in the order in which it found them, and through the
-- letters in their order.
--     IsSearched           each step leads to a state that is found, by a word that is no later than the one just read
--     IsSearchedBefore     the same of the steps whose words come before a bound, for a search that stops there
use Rattle.std.specs.Prelude.{◌≡◌, ℕ, Bool, List, [], ◌∷◌, ◌++◌, length, IsTrue}
use Rattle.std.specs.declared.cmp.Ordering.TheVariants.{Less}
use Rattle.dcv_word.specs.Word.{shortlex_order}
use Rattle.dcv_word.specs.Behaviour.{Word, IsBehaviour}
use Rattle.dcv_language.specs.Automaton.{Automaton, state_after}
use Rattle.dcv_language.specs.Least.{IsNoLater}

-- which states are found, and by which words
pub record IsSearched (k : ℕ) (automaton : Automaton ℕ) (found : ℕ → Bool) (word_of : ℕ → Word) : Type 0 where
  pub behaves : (state : ℕ) → IsTrue (found state) → IsBehaviour k (word_of state)
  pub leads : (state : ℕ) → IsTrue (found state) → state_after automaton (word_of state) ≡ state
  -- from the start
  pub begins : (letter : List Bool) → length letter ≡ k → IsTrue (found (automaton.next automaton.start letter))
  pub begins_early : (letter : List Bool) → length letter ≡ k → IsNoLater (word_of (automaton.next automaton.start letter)) (letter ∷ [])
  -- from each state that is found
  pub goes_on : (state : ℕ) (letter : List Bool) → IsTrue (found state) → length letter ≡ k → IsTrue (found (automaton.next state letter))
  pub goes_on_early : (state : ℕ) (letter : List Bool) → IsTrue (found state) → length letter ≡ k
      → IsNoLater (word_of (automaton.next state letter)) (word_of state ++ letter ∷ [])

pub record IsSearchedBefore (k : ℕ) (automaton : Automaton ℕ) (found : ℕ → Bool) (word_of : ℕ → Word) (bound : Word) : Type 0 where
  pub behaves : (state : ℕ) → IsTrue (found state) → IsBehaviour k (word_of state)
  pub leads : (state : ℕ) → IsTrue (found state) → state_after automaton (word_of state) ≡ state
  pub begins : (letter : List Bool) → length letter ≡ k → shortlex_order (letter ∷ []) bound ≡ Less
      → IsTrue (found (automaton.next automaton.start letter))
  pub begins_early : (letter : List Bool) → length letter ≡ k → shortlex_order (letter ∷ []) bound ≡ Less
      → IsNoLater (word_of (automaton.next automaton.start letter)) (letter ∷ [])
  pub goes_on : (state : ℕ) (letter : List Bool) → IsTrue (found state) → length letter ≡ k → shortlex_order (word_of state ++ letter ∷ []) bound ≡ Less
      → IsTrue (found (automaton.next state letter))
  pub goes_on_early : (state : ℕ) (letter : List Bool) → IsTrue (found state) → length letter ≡ k → shortlex_order (word_of state ++ letter ∷ []) bound ≡ Less
      → IsNoLater (word_of (automaton.next state letter)) (word_of state ++ letter ∷ [])
