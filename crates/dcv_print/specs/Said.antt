-- What a text says of a set of behaviours over k variables.
--     SaysSomeVerdict k L text    the set has a verdict, and the text says it
--     SaysEachVerdict k L text    the text says whatever verdict the set has
use Rattle.std.specs.Prelude.{◌≡◌, ℕ, List}
use Rattle.dcv_language.specs.Language.{Language}
use Rattle.dcv_language.specs.Verdict.{Verdict, IsVerdict}
use Rattle.dcv_language.specs.VerdictText.{verdict_text}

pub record SaysSomeVerdict (k : ℕ) (L : Language) (text : List ℕ) : Type 0 where
  pub verdict : Verdict
  pub is : IsVerdict k L verdict
  pub says : text ≡ verdict_text verdict

abbrev pub SaysEachVerdict : ℕ → Language → List ℕ → Type 0
SaysEachVerdict k L text = (verdict : Verdict) → IsVerdict k L verdict → text ≡ verdict_text verdict
