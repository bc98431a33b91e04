-- Words that a set tells apart.
--     TellsApart k L first second suffix    continued by the suffix both are behaviours, and exactly one of them is in L
--     AreApart k L first second             some suffix tells the words apart
use Rattle.std.specs.Prelude.{◌≢◌, ℕ, ◌++◌}
use Rattle.dcv_word.specs.Behaviour.{Word, IsBehaviour}
use Rattle.dcv_language.specs.Language.{Language}

-- A behaviour has a letter at least: so the empty suffix says nothing of the empty word.
pub record TellsApart (k : ℕ) (L : Language) (first second suffix : Word) : Type 0 where
  pub first_goes_on : IsBehaviour k (first ++ suffix)
  pub second_goes_on : IsBehaviour k (second ++ suffix)
  pub differ : L (first ++ suffix) ≢ L (second ++ suffix)

pub record AreApart (k : ℕ) (L : Language) (first second : Word) : Type 0 where
  pub suffix : Word
  pub tells : TellsApart k L first second suffix
