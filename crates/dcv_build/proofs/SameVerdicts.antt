-- Sets that have the same verdict: so have their complements, and they have one verdict.
use Rattle.std.proofs.Common.{◌≡◌, ◌≤◌, ℕ, Bool, true, false, not, Option, None, Some, length, inl, inr, refl, sym, ap, ◌∙◌, arith}
use Rattle.std.specs.Prelude.{IsTrue}
use Rattle.std.proofs.lemmas.Bool.{cases_lt, false≢true}
use Rattle.dcv_word.specs.Behaviour.{Word}
use Rattle.dcv_language.specs.Language.{Language, HaveSameBehaviours, outside}
use Rattle.dcv_language.specs.Verdict.{IsLeastOf}
use Rattle.dcv_language.proofs.Least.{verdict_of_same_behaviours}
use Rattle.dcv_language.proofs.Words.{asymmetric}
use Rattle.dcv_explore.specs.Verdict.{AgreeUpTo, HasUpTo, HaveSameVerdict, SameThroughout, SameUpTo}
use Rattle.dcv_quotient.proofs.WordOrder.{word_laws}
use Rattle.dcv_build.specs.Laws.{VerdictOfSameVerdict}

has_up_to : (n k : ℕ) (L M : Language) → HaveSameBehaviours k L M → HasUpTo n k L → HasUpTo n k M
has_up_to n k L M same has = record { word = has.word; is = has.is; short = has.short; inside = sym (same has.word has.is) ∙ has.inside }

twice_outside : (b : Bool) → b ≡ not (not b)
twice_outside true = refl
twice_outside false = refl

-- the second set in place of another with the same behaviours
pub same_verdict_after : (k : ℕ) (L M N : Language) → HaveSameVerdict k L M → HaveSameBehaviours k M N → HaveSameVerdict k L N
same_verdict_after k L M N (SameThroughout same) then = SameThroughout (λ word b. same word b ∙ then word b)
same_verdict_after k L M N (SameUpTo n agree inside beyond) then =
    SameUpTo n (λ word b short. agree word b short ∙ then word b) (has_up_to n k M N then inside)
    (has_up_to n k (outside M) (outside N) (λ word b. ap not (then word b)) beyond)

pub same_verdict_outside : (k : ℕ) (L M : Language) → HaveSameVerdict k L M → HaveSameVerdict k (outside L) (outside M)
same_verdict_outside k L M (SameThroughout same) = SameThroughout (λ word b. ap not (same word b))
same_verdict_outside k L M (SameUpTo n agree inside beyond) =
    SameUpTo n (λ word b short. ap not (agree word b short)) beyond (has_up_to n k M (outside (outside M)) (λ word b. twice_outside (M word)) inside)

-- ---- the least behaviour

module _ (n k : ℕ) (L M : Language) (agree : AgreeUpTo n k L M) (has : HasUpTo n k M) where
  in_first : IsTrue (L has.word)
  in_first = agree has.word has.is has.short ∙ has.inside

  least_moves : (least : Option Word) → IsLeastOf k L least → IsLeastOf k M least
  least_moves None none = absurd (false≢true (ap not (sym in_first) ∙ none has.word has.is))
  least_moves (Some word) is =
      let within : length word ≤ n = elim (cases_lt (length has.word) (length word)) [
        | inl shorter ↦ absurd (is.least has.word has.is in_first (word_laws.shorter has.word word shorter))
        | inr no_longer ↦ let short = has.short in omega (arith, no_longer, short)
      ] in
      record {
        behaviour = is.behaviour;
        member = sym (agree word is.behaviour within) ∙ is.member;
        least = λ other b member before. elim (cases_lt n (length other)) [
          | inl long ↦ asymmetric word_laws other word before (word_laws.shorter word other (omega (arith, long, within)))
          | inr short ↦ is.least other b (agree other b short ∙ member) before
        ];
      }

pub verdict_of_same_verdict : VerdictOfSameVerdict
verdict_of_same_verdict k L M verdict (SameThroughout same) is = verdict_of_same_behaviours k L M verdict same is
verdict_of_same_verdict k L M verdict (SameUpTo n agree inside beyond) is = record {
  counterexample = least_moves n k (outside L) (outside M) (λ word b short. ap not (agree word b short)) beyond verdict.counterexample is.counterexample;
  example = least_moves n k L M agree inside verdict.example is.example;
}
