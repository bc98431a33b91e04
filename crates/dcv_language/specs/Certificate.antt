-- Certificates: suffixes that show that access words are told apart, so that no table automaton has fewer states.
--     GrowsFrom           the suffix is a letter before one of the earlier suffixes
--     TellsNewPair        the suffix tells two access words apart that no earlier one does
--     IsNextSuffix        what each suffix is, after the earlier ones
--     IsCertificate       each is such a suffix, and every two access words are told apart by one of them
-- So with one access word there is no suffix, and else the first is the empty word.
use Rattle.std.specs.Prelude.{◌≡◌, ℕ, Bool, List, [], ◌∷◌, ◌++◌, length}
use Rattle.std.specs.List.{All, AllPairs, IsAmong}
use Rattle.dcv_word.specs.Behaviour.{Word}
use Rattle.dcv_language.specs.Language.{Language}
use Rattle.dcv_language.specs.Apart.{TellsApart}

pub record GrowsFrom (k : ℕ) (earlier : List Word) (suffix : Word) : Type 0 where
  pub letter : List Bool
  pub shorter : Word
  pub width : length letter ≡ k
  pub from : IsAmong earlier shorter
  pub grown : suffix ≡ letter ∷ shorter

-- the first suffix is empty
abbrev pub GrowsInTurn : ℕ → List Word → Word → Type 0
GrowsInTurn k [] suffix = suffix ≡ []
GrowsInTurn k (first ∷ others) suffix = GrowsFrom k (first ∷ others) suffix

pub record TellsNewPair (k : ℕ) (L : Language) (access earlier : List Word) (suffix : Word) : Type 0 where
  pub first : Word
  pub second : Word
  pub first_is_access : IsAmong access first
  pub second_is_access : IsAmong access second
  pub tells : TellsApart k L first second suffix
  pub is_new : All (λ other. ¬ TellsApart k L first second other) earlier

pub record IsNextSuffix (k : ℕ) (L : Language) (access earlier : List Word) (suffix : Word) : Type 0 where
  pub grows : GrowsInTurn k earlier suffix
  pub tells : TellsNewPair k L access earlier suffix

pub record AreToldBy (k : ℕ) (L : Language) (suffixes : List Word) (first second : Word) : Type 0 where
  pub suffix : Word
  pub listed : IsAmong suffixes suffix
  pub tells : TellsApart k L first second suffix

pub record IsCertificate (k : ℕ) (L : Language) (access suffixes : List Word) : Type 0 where
  pub each : (earlier later : List Word) (suffix : Word) → suffixes ≡ earlier ++ suffix ∷ later → IsNextSuffix k L access earlier suffix
  pub told : AllPairs (AreToldBy k L suffixes) access
