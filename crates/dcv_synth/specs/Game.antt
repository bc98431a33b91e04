-- The game of a controller against its environment. At each instant the environment picks the inputs, and then the controller the outputs;
-- the letter of the instant has the inputs in the first slots and the outputs in the others.
--     Controller                     the outputs for each list of inputs so far, the latest last
--     Environment                    the next inputs, for the letters so far
--     joined controller inputs       the word that the controller makes of these inputs
--     HasWidth n m controller        inputs over n variables are answered over m
--     Wins n m L controller          each behaviour that it makes is in the set
--     play environment controller    the first letters of the game of the two
--     IsBeatenBy L environment r     one of the first r fronts of the play against this controller is not in the set
--     Beats n m L environment r      that is so of each controller
use Rattle.std.specs.Prelude.{◌≡◌, ℕ, zero, suc, ◌<◌, ◌≤◌, Bool, List, [], ◌∷◌, ◌++◌, length, IsTrue, IsFalse}
use Rattle.dcv_word.specs.Behaviour.{Word, IsBehaviour}
use Rattle.dcv_language.specs.Language.{Language}

abbrev pub Controller : Type 0
Controller = List (List Bool) → List Bool

abbrev pub Environment : Type 0
Environment = Word → List Bool

-- where these inputs came before
abbrev pub joined_after : Controller → List (List Bool) → List (List Bool) → Word
joined_after controller before [] = []
joined_after controller before (input ∷ inputs) =
    let so_far = before ++ input ∷ [] in
    (input ++ controller so_far) ∷ joined_after controller so_far inputs

abbrev pub joined : Controller → List (List Bool) → Word
joined controller inputs = joined_after controller [] inputs

-- (inputs in a row are seen as a word over the input variables)
abbrev pub HasWidth : ℕ → ℕ → Controller → Type 0
HasWidth n m controller = (inputs : Word) → IsBehaviour n inputs → length (controller inputs) ≡ m

pub record Wins (n m : ℕ) (L : Language) (controller : Controller) : Type 0 where
  pub width : HasWidth n m controller
  pub wins : (inputs : Word) → IsBehaviour n inputs → IsTrue (L (joined controller inputs))

-- so many letters more, where these inputs and letters came before
abbrev pub play_after : Environment → Controller → List (List Bool) → Word → ℕ → Word
play_after environment controller before letters zero = []
play_after environment controller before letters (suc count) =
    let so_far = before ++ environment letters ∷ [] in
    let letter = environment letters ++ controller so_far in
    letter ∷ play_after environment controller so_far (letters ++ letter ∷ []) count

abbrev pub play : Environment → Controller → ℕ → Word
play environment controller count = play_after environment controller [] [] count

pub record IsBeatenBy (L : Language) (environment : Environment) (bound : ℕ) (controller : Controller) : Type 0 where
  pub count : ℕ
  pub some : 0 < count
  pub within : count ≤ bound
  pub outside : IsFalse (L (play environment controller count))

pub record Beats (n m : ℕ) (L : Language) (environment : Environment) (bound : ℕ) : Type 0 where
  pub width : (letters : Word) → length (environment letters) ≡ n
  pub beats : (controller : Controller) → HasWidth n m controller → IsBeatenBy L environment bound controller
