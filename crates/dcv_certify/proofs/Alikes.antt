-- Entries that no suffix so far tells apart.
use Rattle.std.proofs.Common.{◌≡◌, inl, inr, ℕ, ◌<◌, List, length, sym, ◌∙◌, subst, arith}
use Rattle.std.proofs.lemmas.Bool.{cases_order}
use Rattle.dcv_word.specs.Behaviour.{Word}
use Rattle.dcv_language.specs.Table.{Table}
use Rattle.dcv_certify.specs.Alike.{AreAlike, IsLeastAlike, AreLeastAlike}
use Rattle.dcv_certify.specs.Split.{number_at, AreOwn}

module _ (table : Table) (suffixes : List Word) where
  alike_sym : (one other : ℕ) → AreAlike table suffixes one other → AreAlike table suffixes other one
  alike_sym one other are = λ i d h. sym (are i d h)

  alike_trans : (one other another : ℕ) → AreAlike table suffixes one other → AreAlike table suffixes other another → AreAlike table suffixes one another
  alike_trans one other another are more = λ i d h. are i d h ∙ more i d h

  -- the least is one
  one_least : (entry other least another : ℕ) → AreAlike table suffixes entry other → IsLeastAlike table suffixes entry least → IsLeastAlike table suffixes other another → least ≡ another
  one_least entry other least another are is its =
      elim (cases_order least another) [
        | inl same ↦ same
        | inr (inl before) ↦ absurd (its.none_before least before (alike_trans least entry other is.alike are))
        | inr (inr after) ↦ absurd (is.none_before another after (alike_trans another other entry its.alike (alike_sym entry other are)))
      ]

  module _ (numbers : List ℕ) (are : AreLeastAlike table suffixes numbers) where
    -- entries have one number where they are alike, and else not
    pub same_number : (entry other : ℕ) → entry < length numbers → other < length numbers → AreAlike table suffixes entry other → number_at numbers entry ≡ number_at numbers other
    same_number entry other within its_within alike =
        one_least entry other (number_at numbers entry) (number_at numbers other) alike (are.each entry within) (are.each other its_within)

    pub alike_by_number : (entry other : ℕ) → entry < length numbers → other < length numbers → number_at numbers entry ≡ number_at numbers other → AreAlike table suffixes entry other
    alike_by_number entry other within its_within same =
        alike_trans entry (number_at numbers entry) other (alike_sym (number_at numbers entry) entry (are.each entry within).alike)
        (subst (λ n. AreAlike table suffixes n other) (sym same) (are.each other its_within).alike)

    pub are_own : AreOwn numbers
    are_own = record {
      no_later = λ entry within. (are.each entry within).no_later;
      own = λ entry within.
          let least = are.each entry within in
          same_number (number_at numbers entry) entry (omega (arith, least.no_later, within)) within least.alike;
    }
