-- What follows of a canonical table: of its access words, and for sets with the same behaviours.
use Rattle.std.proofs.Common.{◌≤◌, ◌≡◌, ◌≢◌, ⊎_elim, ℕ, zero, suc, ◌<◌, List, [], ◌∷◌, ◌++◌, length, get_or, refl, ap, sym, ◌∙◌, subst, arith}
use Rattle.std.proofs.lemmas.Bool.{cases_lt, cases_order}
use Rattle.std.proofs.lemmas.List.{get_or_past}
use Rattle.dcv_word.specs.Behaviour.{Word, IsBehaviour}
use Rattle.dcv_language.specs.Language.{Language, HaveSameBehaviours}
use Rattle.dcv_language.specs.Table.{Table, leads_to}
use Rattle.dcv_language.specs.Apart.{AreApart}
use Rattle.dcv_language.specs.Canonical.{access_word, IsAccessWord, IsStart, IsCanonical}
use Rattle.dcv_language.specs.Laws.{CanonicalIsMinimal, AccessWordsAreLeast, CanonicalForSameBehaviours}
use Rattle.dcv_language.proofs.Bounds.{words_apart_are_no_more_than_states, leads_to-below, apart_states}

-- ---- apart

pub apart_other_way : (k : ℕ) (L : Language) (u v : Word) → AreApart k L u v → AreApart k L v u
apart_other_way k L u v a = record {
  suffix = a.suffix;
  tells = record { first_goes_on = a.tells.second_goes_on; second_goes_on = a.tells.first_goes_on; differ = λ e. a.tells.differ (sym e) };
}

pub not_apart_from_itself : (k : ℕ) (L : Language) (u : Word) → AreApart k L u u → ⊥
not_apart_from_itself k L u a = a.tells.differ refl

-- ---- sets with the same behaviours

module _ (k : ℕ) (L M : Language) (same : HaveSameBehaviours k L M) where
  apart_in : (u v : Word) → AreApart k L u v → AreApart k M u v
  apart_in u v a = record {
    suffix = a.suffix;
    tells = record {
      first_goes_on = a.tells.first_goes_on;
      second_goes_on = a.tells.second_goes_on;
      differ = λ e. a.tells.differ (same (u ++ a.suffix) a.tells.first_goes_on ∙ e ∙ sym (same (v ++ a.suffix) a.tells.second_goes_on));
    };
  }

module _ (k : ℕ) (L M : Language) (same : HaveSameBehaviours k L M) where
  start_in : (table : Table) (word : Word) → IsStart k L table word → IsStart k M table word
  start_in table [] s = record { never_entered = s.never_entered; rejects = s.rejects; apart = λ word b. apart_in k L M same word [] (s.apart word b) }
  start_in table (a ∷ word) s = record {
    leads = s.leads;
    least = record {
      behaviour = s.least.behaviour;
      member = λ apart. s.least.member (apart_in k M L (λ w b. sym (same w b)) (a ∷ word) [] apart);
      least = λ other b like. s.least.least other b (λ apart. like (apart_in k L M same other [] apart));
    };
  }

pub canonical_for_same_behaviours : CanonicalForSameBehaviours
canonical_for_same_behaviours k L M table access same c = record {
  states = c.states;
  exact = λ word b. c.exact word b ∙ same word b;
  words = c.words;
  start = start_in k L M same table (access_word access 0) c.start;
  least = c.least;
  in_order = c.in_order;
  apart = λ i j d h l. apart_in k L M same (get_or access i d) (get_or access j d) (c.apart i j d h l);
}

-- ---- access words

no_empty_behaviour : (k : ℕ) → IsBehaviour k [] → ⊥
no_empty_behaviour k b = absurd (omega (arith, b.nonempty))

module _ (k : ℕ) (L : Language) (table : Table) (access : List Word) (c : IsCanonical k L table access) where
  -- that of a start that is folded
  folded_least : (word : Word) → IsStart k L table word → word ≢ [] → IsAccessWord k table 0 word
  folded_least [] s n = absurd (n refl)
  folded_least (a ∷ word) s n = record {
    behaviour = s.least.behaviour;
    member = s.leads;
    least = λ other b e. s.least.least other b (λ apart. apart_states k L table c.exact other [] apart e);
  }

  pub access_least : (state : ℕ) → state < length table → access_word access state ≢ [] → IsAccessWord k table state (access_word access state)
  access_least zero h n = folded_least (access_word access 0) c.start n
  access_least (suc state) h n = c.least (suc state) (omega arith) h

  never_to : (word : Word) → IsStart k L table word → word ≡ [] → (other : Word) → IsBehaviour k other → leads_to table other ≢ 0
  never_to [] s e other b = s.never_entered other b
  never_to (a ∷ word) s e other b = absurd (cons_not_nil e)
    where
      cons_not_nil : (a ∷ word) ≡ [] → ⊥
      cons_not_nil e = cc

  empty_access : (state : ℕ) → state < length table → access_word access state ≡ [] → state ≡ 0
  empty_access zero h e = refl
  empty_access (suc state) h e = absurd (no_empty_behaviour k (subst (λ w. IsBehaviour k w) e (c.least (suc state) (omega arith) h).behaviour))

  -- each behaviour leads to a state with an access word
  pub entered : (word : Word) → IsBehaviour k word → access_word access (leads_to table word) ≢ []
  entered word b e =
      let at_start = empty_access (leads_to table word) (leads_to-below k table c.states word) e in
      never_to (access_word access 0) c.start (ap (access_word access) (sym at_start) ∙ e) word b at_start

  pub entered_least : (word : Word) → IsBehaviour k word → IsAccessWord k table (leads_to table word) (access_word access (leads_to table word))
  entered_least word b = access_least (leads_to table word) (leads_to-below k table c.states word) (entered word b)

  pub access_leads : (state : ℕ) → state < length table → leads_to table (access_word access state) ≡ state
  access_leads state h = by_word (access_word access state) refl
    where
      by_word : (word : Word) → access_word access state ≡ word → leads_to table (access_word access state) ≡ state
      by_word [] e = ap (leads_to table) e ∙ sym (empty_access state h e)
      by_word (a ∷ word) e = (access_least state h (λ n. nothing (sym e ∙ n))).member
        where
          nothing : (a ∷ word) ≡ [] → ⊥
          nothing e = cc

  pub access_apart : (i j : ℕ) → i < length table → j < length table → i ≢ j → AreApart k L (access_word access i) (access_word access j)
  access_apart i j h l n = ⊎_elim (λ e. absurd (n e)) (λ s. ⊎_elim
      (λ less. c.apart i j [] less (omega (arith, c.words)))
      (λ more. apart_other_way k L (access_word access j) (access_word access i) (c.apart j i [] more (omega (arith, c.words)))) s)
      (cases_order i j)

pub access_words_are_least : AccessWordsAreLeast
access_words_are_least k L table access state letter letters c e =
    let within : state < length table = ⊎_elim (λ h. omega (arith, c.words)) (λ past. absurd (nothing (sym (get_or_past access state [] past) ∙ e))) (cases_lt state (length access)) in
    subst (λ w. IsAccessWord k table state w) e (access_least k L table access c state within (λ n. nothing (sym n ∙ e)))
  where
    nothing : [] ≡ letter ∷ letters → ⊥
    nothing e = cc

pub canonical_is_minimal : CanonicalIsMinimal
canonical_is_minimal k L table other access c t exact =
    subst (λ n. n ≤ length other) c.words (words_apart_are_no_more_than_states k L access other c.apart t exact)
