-- Behaviours: what a requirement is judged on. Every crate above writes them by these two words.
--     Word               letters in a row, maybe none
--     IsBehaviour k w    a word over k variables that is not empty
use Rattle.std.specs.Prelude.{◌≡◌, ℕ, ◌<◌, Bool, List, length}
use Rattle.std.specs.List.{All}

-- the letters of a word, that at instant 0 first, each the truths of the variables in order
abbrev pub Word : Type 0
Word = List (List Bool)

-- a word over k variables that is not empty
pub record IsBehaviour (k : ℕ) (word : Word) : Type 0 where
  pub nonempty : 0 < length word
  pub widths : All (λ letter. length letter ≡ k) word
