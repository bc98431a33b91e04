-- The verdict of a set of behaviours.
--     IsLeast         the word is a behaviour in the set, and no behaviour in the set comes before it in shortlex order
--     IsLeastOf       the least behaviour of the set, where it has one
--     IsVerdict       the least behaviour outside the set, and the least in it
use Rattle.std.specs.Prelude.{ℕ, Option, MatchOption, IsTrue}
use Rattle.dcv_word.specs.Behaviour.{Word}
use Rattle.dcv_language.specs.Language.{Language, HasNone, outside}
use Rattle.dcv_language.specs.Least.{IsLeastWhere}

abbrev pub IsLeast : ℕ → Language → Word → Type 0
IsLeast k L = IsLeastWhere k (λ word. IsTrue (L word))

-- the least behaviour of the set, or none where it has none
abbrev pub IsLeastOf : ℕ → Language → Option Word → Type 0
IsLeastOf k L least = MatchOption least (HasNone k L) (IsLeast k L)

-- The set is valid where there is no counterexample, and satisfiable where there is an example.
pub record Verdict : Type 0 where
  pub counterexample : Option Word
  pub example : Option Word

-- what is said of a set of behaviours over k variables
pub record IsVerdict (k : ℕ) (L : Language) (verdict : Verdict) : Type 0 where
  pub counterexample : IsLeastOf k (outside L) verdict.counterexample
  pub example : IsLeastOf k L verdict.example
