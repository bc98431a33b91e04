-- Whether one of some suffixes tells two words apart.
--     tells_or_not      one suffix does, or not
--     Told suffixes     one of them does
--     told_or_not       one of them does, or none
--     told_by           what one of them tells is told by them
use Rattle.std.proofs.Common.{◌≡◌, ◌⊎◌, inl, inr, ℕ, List, [], ◌∷◌, ◌++◌, refl, subst}
use Rattle.dcv_word.specs.Behaviour.{Word, IsBehaviour}
use Rattle.dcv_language.specs.Language.{Language}
use Rattle.dcv_language.specs.Apart.{TellsApart}
use Rattle.dcv_language.specs.Certificate.{AreToldBy}
use Rattle.dcv_language.proofs.Ascending.{Member, IsAmong-from_Member}
use Rattle.dcv_quotient.proofs.LeastWords.{behaviour_or_not}
use Rattle.dcv_quotient.proofs.ToldApart.{same_truth}

module _ (k : ℕ) (L : Language) (first second : Word) where
  pub tells_or_not : (suffix : Word) → TellsApart k L first second suffix ⊎ (TellsApart k L first second suffix → ⊥)
  tells_or_not suffix = by (behaviour_or_not k (first ++ suffix)) (behaviour_or_not k (second ++ suffix)) (same_truth (L (first ++ suffix)) (L (second ++ suffix)))
    where
      by : (IsBehaviour k (first ++ suffix) ⊎ (IsBehaviour k (first ++ suffix) → ⊥)) → (IsBehaviour k (second ++ suffix) ⊎ (IsBehaviour k (second ++ suffix) → ⊥))
          → ((L (first ++ suffix) ≡ L (second ++ suffix)) ⊎ (L (first ++ suffix) ≡ L (second ++ suffix) → ⊥))
          → TellsApart k L first second suffix ⊎ (TellsApart k L first second suffix → ⊥)
      by (inr not) other same = inr (λ tells. not tells.first_goes_on)
      by (inl one) (inr not) same = inr (λ tells. not tells.second_goes_on)
      by (inl one) (inl other) (inl same) = inr (λ tells. tells.differ same)
      by (inl one) (inl other) (inr differ) = inl (record { first_goes_on = one; second_goes_on = other; differ = differ })

  pub record Told (suffixes : List Word) : Type 0 where
    pub suffix : Word
    pub there : Member suffix suffixes
    pub tells : TellsApart k L first second suffix

  pub told_or_not : (suffixes : List Word) → Told suffixes ⊎ (Told suffixes → ⊥)
  told_or_not [] = inr (λ told. absurd told.there)
  told_or_not (suffix ∷ suffixes) = by (tells_or_not suffix) (told_or_not suffixes)
    where
      by : (TellsApart k L first second suffix ⊎ (TellsApart k L first second suffix → ⊥)) → (Told suffixes ⊎ (Told suffixes → ⊥))
          → Told (suffix ∷ suffixes) ⊎ (Told (suffix ∷ suffixes) → ⊥)
      by (inl tells) rest = inl (record { suffix = suffix; there = inl refl; tells = tells })
      by (inr not) (inl told) = inl (record { suffix = told.suffix; there = inr told.there; tells = told.tells })
      by (inr not) (inr none) = inr (λ told. elim told.there [
        | inl same ↦ not (subst (TellsApart k L first second) same told.tells)
        | inr later ↦ none (record { suffix = told.suffix; there = later; tells = told.tells })
      ])

  pub told_by : (suffixes : List Word) → Told suffixes → AreToldBy k L suffixes first second
  told_by suffixes told = record { suffix = told.suffix; listed = IsAmong-from_Member suffixes told.suffix told.there; tells = told.tells }
