-- The shortest words of an answer are the least of the set, and of those outside it.
use Rattle.std.proofs.Common.{◌≡◌, ◌≢◌, ℕ, Bool, true, false, not, Option, None, Some, Result, Ok, Err, refl, ap, sym, subst}
use Rattle.std.specs.Prelude.{IfOk, IfSome, IfNone, IsTrue}
use Rattle.dcv_word.specs.Word.{WordValue}
use Rattle.dcv_word.specs.Behaviour.{Word, IsBehaviour}
use Rattle.dcv_language.specs.Language.{Language, outside}
use Rattle.dcv_language.specs.Least.{IsLeastWhere}
use Rattle.dcv_language.specs.Verdict.{IsLeastOf}
use Rattle.dcv_print.specs.Verdict.{letters_of}

-- what is said of the shortest word with an answer, and of there being none
abbrev IsFirst : ℕ → Language → Bool → Option WordValue → Type 0
IsFirst k L answer found = IfSome found (λ word. IsLeastWhere k (λ other. L other ≡ answer) word.letters)

abbrev HasOther : ℕ → Language → Bool → Option WordValue → Type 0
HasOther k L answer found = IfNone found ((word : Word) → IsBehaviour k word → L word ≢ answer)

not_false : (b : Bool) → b ≢ false → IsTrue b
not_false true h = refl
not_false false h = absurd (h refl)

not_true : (b : Bool) → b ≢ true → IsTrue (not b)
not_true true h = absurd (h refl)
not_true false h = refl

turned : (b : Bool) → IsTrue (not b) → b ≡ false
turned true h = absurd cc
turned false h = refl

member_outside : (k : ℕ) (L : Language) (found : Option WordValue) → IsFirst k L false found → HasOther k L false found
    → IsLeastOf k (outside L) (letters_of found)
member_outside k L None first none = λ word b. subst (λ a. IsTrue (not (not a))) (sym (not_false (L word) (none word b))) refl
member_outside k L (Some word) first none = record {
  behaviour = first.behaviour;
  member = ap not first.member;
  least = λ other b outside. first.least other b (turned (L other) outside);
}

member_inside : (k : ℕ) (L : Language) (found : Option WordValue) → IsFirst k L true found → HasOther k L true found
    → IsLeastOf k L (letters_of found)
member_inside k L None first none = λ word b. not_true (L word) (none word b)
member_inside k L (Some word) first none = record { behaviour = first.behaviour; member = first.member; least = first.least }

pub least_outside : {E : Type 0} (k : ℕ) (L : Language) (found : Result (Option WordValue) E) → IfOk found (IsFirst k L false)
    → IfOk found (HasOther k L false) → IfOk found (λ word. IsLeastOf k (outside L) (letters_of word))
least_outside k L (Ok found) first none = member_outside k L found first none
least_outside k L (Err e) first none = tt

pub least_inside : {E : Type 0} (k : ℕ) (L : Language) (found : Result (Option WordValue) E) → IfOk found (IsFirst k L true)
    → IfOk found (HasOther k L true) → IfOk found (λ word. IsLeastOf k L (letters_of word))
least_inside k L (Ok found) first none = member_inside k L found first none
least_inside k L (Err e) first none = tt
