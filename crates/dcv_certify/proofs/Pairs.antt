-- The first two states that no suffix tells apart are the first two that are joined.
use Rattle.std.proofs.Common.{◌≡◌, ◌⊎◌, inl, inr, ℕ, ◌<◌, Bool, true, false, ◌&&◌, ◌||◌, List, refl, ap, sym, ◌∙◌, subst, arith}
use Rattle.std.specs.Prelude.{nat_eq, Option, Some, None, IfSome, IfNone}
use Rattle.std.specs.Cmp.{unsigned_Decides}
use Rattle.std.proofs.lemmas.Bool.{cases_lt, cases_order, true≢false}
use Rattle.dcv_automaton_text.specs.File.{AutomatonFile}
use Rattle.dcv_automaton_text.specs.Rules.{IsGood}
use Rattle.dcv_automaton_text.proofs.Kept.{both}
use Rattle.dcv_certify.specs.Certified.{HasGoodWords, AreTold, HasAllTold, IsPair, IsFirstPair, IsNoLaterPair}
use Rattle.dcv_certify.specs.Joined.{joined, IsFirstJoined, HasNoneJoined}
use Rattle.dcv_certify.specs.Numbers.{AreNumbersOf}
use Rattle.dcv_certify.specs.Split.{number_at}
use Rattle.dcv_certify.proofs.Told.{Joined, joined_not_told, told_by_numbers}

module _ (file : AutomatonFile) (good : IsGood file) (words : HasGoodWords file) (numbers : List ℕ) (are : AreNumbersOf file numbers) where
  joined_is : (first second : ℕ) → joined numbers file.states first second ≡ true → Joined file good words numbers first second
  joined_is first second e = by (nat_eq (number_at numbers first) (number_at numbers second)) refl e
    where
      other : (nat_eq first 0 && nat_eq (number_at numbers file.states) (number_at numbers second)) ≡ true → Joined file good words numbers first second
      other e =
          let parts = both (nat_eq first 0) (nat_eq (number_at numbers file.states) (number_at numbers second)) e in
          inr ((unsigned_Decides first 0).0 parts.0, (unsigned_Decides (number_at numbers file.states) (number_at numbers second)).0 parts.1)

      by : (b : Bool) → nat_eq (number_at numbers first) (number_at numbers second) ≡ b
          → (b || (nat_eq first 0 && nat_eq (number_at numbers file.states) (number_at numbers second))) ≡ true → Joined file good words numbers first second
      by true is e = inl ((unsigned_Decides (number_at numbers first) (number_at numbers second)).0 is)
      by false is e = other e

  is_joined : (first second : ℕ) → Joined file good words numbers first second → joined numbers file.states first second ≡ true
  is_joined first second (inl same) =
      let first_is : nat_eq (number_at numbers first) (number_at numbers second) ≡ true = (unsigned_Decides (number_at numbers first) (number_at numbers second)).1 same in
      ap (λ b. b || (nat_eq first 0 && nat_eq (number_at numbers file.states) (number_at numbers second))) first_is
  is_joined first second (inr (start, same)) =
      let a = (unsigned_Decides first 0).1 start in
      let d = (unsigned_Decides (number_at numbers file.states) (number_at numbers second)).1 same in
      (λ i. nat_eq (number_at numbers first) (number_at numbers second) || (a i && d i)) ∙ or_true (nat_eq (number_at numbers first) (number_at numbers second))
    where
      or_true : (b : Bool) → (b || true) ≡ true
      or_true true = refl
      or_true false = refl

  told_where_not : (first second : ℕ) → first < second → second < file.states → joined numbers file.states first second ≡ false → AreTold file first second
  told_where_not first second before within e =
      told_by_numbers file good words numbers are first second before within (λ is. true≢false (sym (is_joined first second is) ∙ e))

  pub all_told : HasNoneJoined numbers file.states → HasAllTold file
  all_told none first second before within = told_where_not first second before within (none first (omega arith) second before within)

  pub first_pair_is : (first second : ℕ) → IsFirstJoined numbers file.states first second → IsFirstPair file first second
  first_pair_is first second found = record {
    pair = record {
      in_order = found.mate.behind;
      is_state = found.mate.is_state;
      not_told = joined_not_told file good words numbers are first second found.mate.behind found.mate.is_state (joined_is first second found.mate.is);
    };
    least = λ other another pair. by other another pair (cases_order first other);
  }
    where
      by : (other another : ℕ) → IsPair file other another → (first ≡ other) ⊎ ((first < other) ⊎ (other < first)) → IsNoLaterPair first second other another
      by other another pair (inr (inl less)) = inl less
      by other another pair (inr (inr more)) =
          absurd (pair.not_told (told_where_not other another pair.in_order pair.is_state (found.none_before other more another pair.in_order pair.is_state)))
      by other another pair (inl same) =
          elim (cases_lt another second) [
            | inl earlier ↦ absurd (pair.not_told (told_where_not other another pair.in_order pair.is_state
                (subst (λ n. joined numbers file.states n another ≡ false) same
                (found.mate.none_before another (subst (λ n. n < another) (sym same) pair.in_order) earlier))))
            | inr later ↦ inr (same, later)
          ]

pub if_some_more : {T : Type 0} (option : Option T) (P Q : T → Type 0) → ((x : T) → P x → Q x) → IfSome option P → IfSome option Q
if_some_more (Some x) P Q more is = more x is
if_some_more None P Q more is = is

pub if_none_more : {T : Type 0} (option : Option T) (P Q : Type 0) → (P → Q) → IfNone option P → IfNone option Q
if_none_more (Some x) P Q more is = is
if_none_more None P Q more is = more is
