-- The first two states that are joined, by the entries that have the number of another.
use Rattle.std.proofs.Common.{◌≡◌, ◌≢◌, ◌⊎◌, inl, inr, ⊎_elim, ℕ, ◌<◌, ◌≤◌, Bool, true, false, ◌&&◌, ◌||◌, List, length, take, refl, ap, sym, ◌∙◌, subst, arith, Option, None, Some}
use Rattle.std.specs.Prelude.{nat_eq, IfSome, IfNone}
use Rattle.std.specs.Cmp.{unsigned_Decides}
use Rattle.std.proofs.lemmas.Bool.{cases_order, true≢false}
use Rattle.std.proofs.lemmas.List.{length-take, get_or-take}
use Rattle.dcv_automaton_text.proofs.Kept.{both}
use Rattle.dcv_certify.specs.Certified.{IsNoLaterPair}
use Rattle.dcv_certify.specs.Joined.{joined, HasNoMate, IsFirstJoined, HasNoneJoined, AreOwnBefore, IsLeastPair, IsLeastOther}
use Rattle.dcv_certify.specs.Split.{number_at, AreOwn}

not_true : (b : Bool) → (b ≡ true → ⊥) → b ≡ false
not_true true wrong = absurd (wrong refl)
not_true false wrong = refl

-- of a state after the start
joined_later : (numbers : List ℕ) (states first second : ℕ) → 0 < first → joined numbers states first second ≡ true → number_at numbers first ≡ number_at numbers second
joined_later numbers states first second later is = by (nat_eq (number_at numbers first) (number_at numbers second)) refl is
  where
    by : (b : Bool) → nat_eq (number_at numbers first) (number_at numbers second) ≡ b
        → (b || (nat_eq first 0 && nat_eq (number_at numbers states) (number_at numbers second))) ≡ true → number_at numbers first ≡ number_at numbers second
    by true e is = (unsigned_Decides (number_at numbers first) (number_at numbers second)).0 e
    by false e is =
        absurd (let start = (unsigned_Decides first 0).0 (both (nat_eq first 0) (nat_eq (number_at numbers states) (number_at numbers second)) is).0 in omega arith)

joined_same : (numbers : List ℕ) (states first second : ℕ) → number_at numbers first ≡ number_at numbers second → joined numbers states first second ≡ true
joined_same numbers states first second same =
    ap (λ b. b || (nat_eq first 0 && nat_eq (number_at numbers states) (number_at numbers second))) ((unsigned_Decides (number_at numbers first) (number_at numbers second)).1 same)

module _ (numbers : List ℕ) (states : ℕ) (within : states ≤ length numbers) where
  in_front : (entry : ℕ) → entry < states → number_at (take states numbers) entry ≡ number_at numbers entry
  in_front entry inside = get_or-take states numbers entry 0 inside

  size_of_front : length (take states numbers) ≡ states
  size_of_front = omega (arith, length-take states numbers, within)

  pub other_of_front : (found : Option (ℕ × ℕ)) → IsLeastOther (take states numbers) (length (take states numbers)) found → IsLeastOther numbers states found
  other_of_front None are = λ entry inside. sym (in_front entry inside) ∙ are entry (omega (arith, size_of_front))
  other_of_front (Some (first, second)) is = record {
    is_entry = omega (arith, is.is_entry, size_of_front);
    number = sym (in_front second (omega (arith, is.is_entry, size_of_front))) ∙ is.number;
    other = is.other;
    least = λ entry inside differ.
        subst (λ number. IsNoLaterPair first second number entry) (in_front entry inside)
        (is.least entry (omega (arith, size_of_front)) (λ e. differ (sym (in_front entry inside) ∙ e)));
  }

  module _ (own : AreOwn numbers) (none : HasNoMate numbers states 0 states) where
    -- the second has the number of the first, and so of another
    differs : (first second : ℕ) → first < second → second < states → number_at numbers first ≡ number_at numbers second → number_at numbers second ≢ second
    differs first second before inside same is = omega (arith, own.no_later first (omega arith), same, is)

    first_joined_is : (first second : ℕ) → IsLeastPair numbers states first second → IsFirstJoined numbers states first second
    first_joined_is first second is = record {
      mate = record {
        behind = behind;
        is_state = is.is_entry;
        is = joined_same numbers states first second same;
        none_before = λ other later before. not_true (joined numbers states first other) (λ e. no_earlier other later before (joined_later numbers states first other later_first e));
      };
      none_before = λ other before another behind_it inside. by other before another behind_it inside (cases_order 0 other);
    }
      where
        not_later : number_at numbers second ≤ second
        not_later = own.no_later second (omega (arith, is.is_entry, within))

        behind : first < second
        behind = by_order (cases_order first second)
          where
            by_order : (first ≡ second) ⊎ ((first < second) ⊎ (second < first)) → first < second
            by_order (inl e) = absurd (is.other e)
            by_order (inr (inl less)) = less
            by_order (inr (inr more)) = absurd (omega (arith, more, not_later, is.number))

        same : number_at numbers first ≡ number_at numbers second
        same = ap (number_at numbers) (sym is.number) ∙ own.own second (omega (arith, is.is_entry, within))

        later_first : 0 < first
        later_first = by_zero (cases_order 0 first)
          where
            by_zero : (0 ≡ first) ⊎ ((0 < first) ⊎ (first < 0)) → 0 < first
            by_zero (inl e) =
                absurd (true≢false (sym (joined_same numbers states 0 second (ap (number_at numbers) e ∙ same)) ∙ none second (omega (arith, behind)) is.is_entry))
            by_zero (inr (inl less)) = less
            by_zero (inr (inr more)) = absurd (omega (arith, more))

        no_earlier : (other : ℕ) → first < other → other < second → number_at numbers first ≡ number_at numbers other → ⊥
        no_earlier other later before e =
            ⊎_elim
            (λ less. omega (arith, less, same, e, is.number))
            (λ rest. omega (arith, rest.1, before))
            (is.least other (omega (arith, before, is.is_entry)) (differs first other later (omega (arith, before, is.is_entry)) e))

        none_earlier : (other another : ℕ) → 0 < other → other < first → other < another → another < states → number_at numbers other ≡ number_at numbers another → ⊥
        none_earlier other another later before behind_it inside e =
            let low : number_at numbers other ≤ other = own.no_later other (omega arith) in
            ⊎_elim
            (λ less. omega (arith, less, e, low, before))
            (λ rest. omega (arith, rest.0, e, low, before))
            (is.least another inside (differs other another behind_it inside e))

        by : (other : ℕ) → other < first → (another : ℕ) → other < another → another < states → (0 ≡ other) ⊎ ((0 < other) ⊎ (other < 0)) → joined numbers states other another ≡ false
        by other before another behind_it inside (inl start) =
            subst (λ n. joined numbers states n another ≡ false) start (none another (omega (arith, behind_it)) inside)
        by other before another behind_it inside (inr (inl later)) =
            not_true (joined numbers states other another) (λ e. none_earlier other another later before behind_it inside (joined_later numbers states other another later e))
        by other before another behind_it inside (inr (inr never)) = absurd (omega (arith, never))

    none_joined : AreOwnBefore numbers states → HasNoneJoined numbers states
    none_joined are first first_inside second behind inside = by (cases_order 0 first)
      where
        by : (0 ≡ first) ⊎ ((0 < first) ⊎ (first < 0)) → joined numbers states first second ≡ false
        by (inl start) = subst (λ n. joined numbers states n second ≡ false) start (none second (omega (arith, behind)) inside)
        by (inr (inl later)) =
            not_true (joined numbers states first second)
            (λ e. differs first second behind inside (joined_later numbers states first second later e) (are second inside))
        by (inr (inr never)) = absurd (omega (arith, never))

    pub some_joined : (found : Option (ℕ × ℕ)) → IsLeastOther numbers states found → IfSome found (λ pair. IsFirstJoined numbers states pair.0 pair.1)
    some_joined None are = tt
    some_joined (Some (first, second)) is = first_joined_is first second is

    pub all_apart : (found : Option (ℕ × ℕ)) → IsLeastOther numbers states found → IfNone found (HasNoneJoined numbers states)
    all_apart None are = none_joined are
    all_apart (Some (first, second)) is = tt
