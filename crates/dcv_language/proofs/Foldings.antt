-- A folding is canonical.
use Rattle.std.proofs.Common.{◌≡◌, ◌≢◌, ⊎_elim, ℕ, zero, suc, ◌<◌, ◌^◌, Bool, ltb, ◌&&◌, List, [], ◌∷◌, ◌++◌, length, get_or, AllPairs, refl, ap, sym, ◌∙◌, subst, subst₂, arith, append_assoc, append-nil, length-append}
use Rattle.std.specs.Prelude.{IsTrue}
use Rattle.std.proofs.lemmas.Bool.{cases_eq, ltb-true, lt-ltb, and_parts, and_from}
use Rattle.std.proofs.lemmas.List.{get_or_default}
use Rattle.dcv_word.specs.Behaviour.{Word, IsBehaviour}
use Rattle.dcv_word.specs.Letter.{letter_of, bits_of}
use Rattle.dcv_word.specs.Laws.{LetterHasItsWidth, BitsOfItsLetter}
use Rattle.dcv_language.specs.Language.{Language}
use Rattle.dcv_language.specs.Automaton.{Automaton, state_after, accepts}
use Rattle.dcv_language.specs.Least.{IsNoLater}
use Rattle.dcv_language.specs.Table.{Table, no_state, row_of, is_accepting, next_in, automaton_of, leads_to, AcceptsExactly}
use Rattle.dcv_language.specs.Apart.{AreApart}
use Rattle.dcv_language.specs.Canonical.{access_word, IsFolded, IsStart, IsCanonical}
use Rattle.dcv_language.specs.Search.{IsSearched}
use Rattle.dcv_language.specs.Folding.{HasOtherRow, StartIsAlone, StartIsShared, StartIsAloneOrShared, IsFolding}
use Rattle.dcv_language.specs.Laws.{FoldingIsCanonical}
use Rattle.dcv_language.proofs.Behaviours.{Widths, Widths-head, Widths-tail, single, one_letter, goes_on}
use Rattle.dcv_language.proofs.Bounds.{leads_to-below, next-below, alike}
use Rattle.dcv_language.proofs.Canonicals.{apart_other_way}
use Rattle.dcv_language.proofs.Runs.{state_from-append, accepts_by_state, accepts_on}
use Rattle.dcv_language.proofs.Searches.{found_least, found_early}
use Rattle.dcv_language.proofs.Words.{WordLaws, Before, irreflexive, before_chain, no_later_chain, before_no_later, cases_no_later}

-- ---- where two rows differ

differing_place : (xs ys : List ℕ) → length xs ≡ length ys → xs ≢ ys → (n : ℕ) × (n < length xs) × (get_or xs n 0 ≢ get_or ys n 0)
differing_place [] [] e n = absurd (n refl)
differing_place [] (y ∷ ys) e n = absurd (omega arith)
differing_place (x ∷ xs) [] e n = absurd (omega arith)
differing_place (x ∷ xs) (y ∷ ys) e n = ⊎_elim
    (λ head. let p = differing_place xs ys (omega arith) (λ tail. n (λ i. head i ∷ tail i)) in (suc p.0, omega (arith, p.1), p.2))
    (λ differ. (0, omega arith, differ))
    (cases_eq x y)

-- words that a letter makes apart are apart
apart_by_letter : (k : ℕ) (L : Language) (word : Word) (a : List Bool) → AreApart k L (word ++ a ∷ []) (a ∷ []) → AreApart k L word []
apart_by_letter k L word a found = record {
  suffix = a ∷ found.suffix;
  tells = record {
    first_goes_on = subst (λ w. IsBehaviour k w) (append_assoc word (a ∷ []) found.suffix) found.tells.first_goes_on;
    second_goes_on = found.tells.second_goes_on;
    differ = λ same. found.tells.differ (ap L (append_assoc word (a ∷ []) found.suffix) ∙ same);
  };
}

-- ---- the table follows the raw automaton

record Follows (raw : Automaton ℕ) (reached : ℕ → Bool) (number : ℕ → ℕ) (table : Table) (word : Word) : Type 0 where
  is_reached : IsTrue (reached (state_after raw word))
  numbered : leads_to table word ≡ number (state_after raw word)

module _ (k : ℕ) (raw : Automaton ℕ) (reached : ℕ → Bool) (number : ℕ → ℕ) (table : Table) (access : List Word) (f : IsFolding k raw reached number table access) where
  follows_next : (u : Word) (a : List Bool) → Follows raw reached number table u → length a ≡ k → Follows raw reached number table (u ++ a ∷ [])
  follows_next u a h e =
      let state = state_after raw u in
      let leads = state_from-append raw raw.start u (a ∷ []) in
      record {
        is_reached = subst (λ n. IsTrue (reached n)) (sym leads) (f.goes_on state a h.is_reached e);
        numbered = state_from-append (automaton_of table) 0 u (a ∷ []) ∙ ap (λ n. next_in table n a) h.numbered ∙ f.steps state a h.is_reached e ∙ ap number (sym leads);
      }

  follows_on : (u v : Word) → Follows raw reached number table u → Widths k v → Follows raw reached number table (u ++ v)
  follows_on u [] h w = subst (λ x. Follows raw reached number table x) (sym (append-nil u)) h
  follows_on u (a ∷ v) h w =
      subst (λ x. Follows raw reached number table x) (append_assoc u (a ∷ []) v)
      (follows_on (u ++ a ∷ []) v (follows_next u a h (Widths-head k a v w)) (Widths-tail k a v w))

  follows : (word : Word) → IsBehaviour k word → Follows raw reached number table word
  follows [] b = absurd (omega (arith, b.nonempty))
  follows (a ∷ word) b =
      let width = Widths-head k a word b.widths in
      follows_on (a ∷ []) word (record { is_reached = f.begins a width; numbered = f.start_steps a width }) (Widths-tail k a word b.widths)

  folding_exact : AcceptsExactly k table (accepts raw)
  folding_exact word b =
      let h = follows word b in
      accepts_by_state (automaton_of table) word b.nonempty
      ∙ ap (is_accepting table) h.numbered
      ∙ f.flags (state_after raw word) h.is_reached
      ∙ sym (accepts_by_state raw word b.nonempty)

  -- behaviours that lead to two states are apart
  apart_by_states : (u v : Word) → IsBehaviour k u → IsBehaviour k v → leads_to table u ≢ leads_to table v → AreApart k (accepts raw) u v
  apart_by_states u v b c differ =
      let one = follows u b in
      let two = follows v c in
      let a = f.apart (state_after raw u) (state_after raw v) one.is_reached two.is_reached (λ e. differ (one.numbered ∙ e ∙ sym two.numbered)) in
      let on_u = goes_on k u a.suffix b a.widths in
      let on_v = goes_on k v a.suffix c a.widths in
      record {
        suffix = a.suffix;
        tells = record {
          first_goes_on = on_u;
          second_goes_on = on_v;
          differ = λ e. a.differ (sym (accepts_on raw u a.suffix on_u.nonempty) ∙ e ∙ accepts_on raw v a.suffix on_v.nonempty);
        };
      }

  -- a behaviour that leads to a state with another row is apart from the empty word
  module _ (width : LetterHasItsWidth) (bits : BitsOfItsLetter) where
    apart_from_empty : (word : Word) → IsBehaviour k word → HasOtherRow table (leads_to table word) → AreApart k (accepts raw) word []
    apart_from_empty word b other =
        let state = leads_to table word in
        let below = leads_to-below k table f.states word in
        let long : length (row_of table state) ≡ 2 ^ k = f.states.rows state no_state below in
        let long_start : length (row_of table 0) ≡ 2 ^ k = f.states.rows 0 no_state f.states.nonempty in
        let place = differing_place (row_of table state) (row_of table 0) (long ∙ sym long_start) other in
        let a = letter_of k place.0 in
        let number_of : bits_of a ≡ place.0 = bits k place.0 (omega (arith, place.1)) in
        let differ : next_in table state a ≢ next_in table 0 a = subst (λ n. get_or (row_of table state) n 0 ≢ get_or (row_of table 0) n 0) {x = place.0} {y = bits_of a} (sym number_of) place.2 in
        let e = width k place.0 in
        let on = goes_on k word (a ∷ []) b (one_letter k a e) in
        let found = apart_by_states (word ++ a ∷ []) (a ∷ []) on (single k a e) (λ same. differ (sym (state_from-append (automaton_of table) 0 word (a ∷ [])) ∙ same)) in
        apart_by_letter k (accepts raw) word a found

-- ---- words by states

positive : (n : ℕ) → n ≢ 0 → 0 < n
positive n h = omega arith

module _ (k : ℕ) (raw : Automaton ℕ) (access : List Word) where
  -- at any default
  pairs_apart : ((i j : ℕ) → i < j → j < length access → AreApart k (accepts raw) (access_word access i) (access_word access j)) → AllPairs (AreApart k (accepts raw)) access
  pairs_apart h i j d less within =
      subst₂ (AreApart k (accepts raw)) (get_or_default access i [] d (omega arith)) (get_or_default access j [] d within) (h i j less within)

-- ---- a start that stands alone

module _ (laws : WordLaws) (width : LetterHasItsWidth) (bits : BitsOfItsLetter) (k : ℕ) (raw : Automaton ℕ) (reached : ℕ → Bool) (number : ℕ → ℕ) (table : Table) (access : List Word)
    (f : IsFolding k raw reached number table access) (s : StartIsAlone table reached number) where
  never_entered : (word : Word) → IsBehaviour k word → leads_to table word ≢ 0
  never_entered word b e =
      let h = follows k raw reached number table access f word b in
      s.never_entered (state_after raw word) h.is_reached (sym h.numbered ∙ e)

  abbrev further : ℕ → Bool
  further state = ltb 0 state && ltb state (length table)

  is_further : (state : ℕ) → state ≢ 0 → state < length table → IsTrue (further state)
  is_further state n h = and_from (ltb 0 state) (ltb state (length table)) (lt-ltb 0 state (positive state n)) (lt-ltb state (length table) h)

  above : (state : ℕ) → IsTrue (further state) → 0 < state
  above state t = ltb-true 0 state (and_parts (ltb 0 state) (ltb state (length table)) t).0

  below : (state : ℕ) → IsTrue (further state) → state < length table
  below state t = ltb-true state (length table) (and_parts (ltb 0 state) (ltb state (length table)) t).1

  -- a behaviour leads to a further state
  leads_further : (word : Word) → IsBehaviour k word → IsTrue (further (leads_to table word))
  leads_further word b = is_further (leads_to table word) (never_entered word b) (leads_to-below k table f.states word)

  searched_alone : IsSearched k (automaton_of table) further (access_word access)
  searched_alone = record {
    behaves = λ state t. f.behaves state (above state t) (below state t);
    leads = λ state t. f.leads state (above state t) (below state t);
    begins = λ a e. leads_further (a ∷ []) (single k a e);
    begins_early = f.begins_early;
    goes_on = λ state a t e.
        let word = access_word access state in
        subst (λ n. IsTrue (further n))
        (state_from-append (automaton_of table) 0 word (a ∷ []) ∙ ap (λ n. next_in table n a) (f.leads state (above state t) (below state t)))
        (leads_further (word ++ a ∷ []) (goes_on k word (a ∷ []) (f.behaves state (above state t) (below state t)) (one_letter k a e)));
    goes_on_early = λ state a t e. f.goes_on_early state a (above state t) (below state t) e;
  }

  alone_apart : (word : Word) → IsBehaviour k word → AreApart k (accepts raw) word []
  alone_apart word b =
      apart_from_empty k raw reached number table access f width bits word b
      (s.other_rows (leads_to table word) (positive (leads_to table word) (never_entered word b)) (leads_to-below k table f.states word))

  access_apart_alone : access_word access 0 ≡ [] → (i j : ℕ) → i < j → j < length access → AreApart k (accepts raw) (access_word access i) (access_word access j)
  access_apart_alone e zero j less within =
      subst (λ w. AreApart k (accepts raw) w (access_word access j)) (sym e)
      (apart_other_way k (accepts raw) (access_word access j) [] (alone_apart (access_word access j) (f.behaves j less (omega (arith, f.words)))))
  access_apart_alone e (suc i) j less within =
      apart_by_states k raw reached number table access f (access_word access (suc i)) (access_word access j)
      (f.behaves (suc i) (omega arith) (omega (arith, f.words))) (f.behaves j (omega arith) (omega (arith, f.words)))
      (λ same. absurd (omega (arith, f.leads (suc i) (omega arith) (omega (arith, f.words)), f.leads j (omega arith) (omega (arith, f.words)), same)))

  alone_canonical : access_word access 0 ≡ [] → IsCanonical k (accepts raw) table access
  alone_canonical e = record {
    states = f.states;
    exact = folding_exact k raw reached number table access f;
    words = f.words;
    start = subst (IsStart k (accepts raw) table) (sym e) (record { never_entered = never_entered; rejects = s.rejects; apart = alone_apart });
    least = λ state more h. found_least laws k (automaton_of table) further (access_word access) searched_alone state (is_further state (λ z. absurd (omega arith)) h);
    in_order = f.in_order;
    apart = pairs_apart k raw access (access_apart_alone e);
  }

-- ---- a start that is folded

module _ (laws : WordLaws) (width : LetterHasItsWidth) (bits : BitsOfItsLetter) (k : ℕ) (raw : Automaton ℕ) (reached : ℕ → Bool) (number : ℕ → ℕ) (table : Table) (access : List Word)
    (f : IsFolding k raw reached number table access) (s : StartIsShared k table access) where
  abbrev is_state : ℕ → Bool
  is_state state = ltb state (length table)

  all_behave : (state : ℕ) → state < length table → IsBehaviour k (access_word access state)
  all_behave zero h = s.behaves
  all_behave (suc state) h = f.behaves (suc state) (omega arith) h

  all_lead : (state : ℕ) → state < length table → leads_to table (access_word access state) ≡ state
  all_lead zero h = s.leads
  all_lead (suc state) h = f.leads (suc state) (omega arith) h

  steps_early : (state : ℕ) (a : List Bool) → state < length table → length a ≡ k → IsNoLater (access_word access (next_in table state a)) (access_word access state ++ a ∷ [])
  steps_early zero a h e =
      let first = access_word access 0 in
      no_later_chain laws (access_word access (next_in table 0 a)) (a ∷ []) (first ++ a ∷ []) (f.begins_early a e)
      (before_no_later laws (a ∷ []) (first ++ a ∷ []) (laws.shorter (a ∷ []) (first ++ a ∷ []) (omega (arith, length-append first (a ∷ []), s.behaves.nonempty))))
  steps_early (suc state) a h e = f.goes_on_early (suc state) a (omega arith) h e

  searched_shared : IsSearched k (automaton_of table) is_state (access_word access)
  searched_shared = record {
    behaves = λ state t. all_behave state (ltb-true state (length table) t);
    leads = λ state t. all_lead state (ltb-true state (length table) t);
    begins = λ a e. lt-ltb (next_in table 0 a) (length table) (next-below k table f.states 0 a f.states.nonempty);
    begins_early = f.begins_early;
    goes_on = λ state a t e. lt-ltb (next_in table state a) (length table) (next-below k table f.states state a (ltb-true state (length table) t));
    goes_on_early = λ state a t e. steps_early state a (ltb-true state (length table) t) e;
  }

  abbrev start_word : Word
  start_word = access_word access 0

  start_alike : AreApart k (accepts raw) start_word [] → ⊥
  start_alike a =
      a.tells.differ (alike k (accepts raw) table (folding_exact k raw reached number table access f) start_word [] a.suffix s.leads a.tells.first_goes_on a.tells.second_goes_on)

  -- A behaviour before it leads to a state of a lesser word, which has another row.
  start_least : (other : Word) → IsBehaviour k other → (AreApart k (accepts raw) other [] → ⊥) → Before other start_word → ⊥
  start_least other b like before =
      let state = leads_to table other in
      let h = leads_to-below k table f.states other in
      let early = found_early laws k (automaton_of table) is_state (access_word access) searched_shared other b in
      let lesser : Before (access_word access state) start_word = ⊎_elim
      (λ less. before_chain laws (access_word access state) other start_word less before)
      (λ same. subst (λ w. Before w start_word) (sym same) before)
      (cases_no_later laws (access_word access state) other early) in
      let more : 0 < state = positive state (λ z. irreflexive laws start_word (subst (λ n. Before (access_word access n) start_word) z lesser)) in
      like (apart_from_empty k raw reached number table access f width bits other b (s.other_rows state more h lesser))

  access_apart_shared : (i j : ℕ) → i < j → j < length access → AreApart k (accepts raw) (access_word access i) (access_word access j)
  access_apart_shared i j less within =
      apart_by_states k raw reached number table access f (access_word access i) (access_word access j)
      (all_behave i (omega (arith, f.words))) (all_behave j (omega (arith, f.words)))
      (λ same. absurd (omega (arith, all_lead i (omega (arith, f.words)), all_lead j (omega (arith, f.words)), same)))

  shared_start : (first : Word) → start_word ≡ first → first ≢ [] → IsStart k (accepts raw) table first
  shared_start [] e n = absurd (n refl)
  shared_start (a ∷ first) e n =
      subst (IsFolded k (accepts raw) table) e
      (record { leads = s.leads; least = record { behaviour = s.behaves; member = start_alike; least = λ other b like before. start_least other b like before } })

  shared_canonical : start_word ≢ [] → IsCanonical k (accepts raw) table access
  shared_canonical n = record {
    states = f.states;
    exact = folding_exact k raw reached number table access f;
    words = f.words;
    start = shared_start start_word refl n;
    least = λ state more h. found_least laws k (automaton_of table) is_state (access_word access) searched_shared state (lt-ltb state (length table) h);
    in_order = f.in_order;
    apart = pairs_apart k raw access access_apart_shared;
  }

-- ---- the law

pub folding_is_canonical : WordLaws → LetterHasItsWidth → BitsOfItsLetter → FoldingIsCanonical
folding_is_canonical laws width bits k raw reached number table access f = by_start (access_word access 0) refl f.start
  where
    by_start : (first : Word) → access_word access 0 ≡ first → StartIsAloneOrShared k table access reached number first → IsCanonical k (accepts raw) table access
    by_start [] e s = alone_canonical laws width bits k raw reached number table access f s e
    by_start (a ∷ first) e s = shared_canonical laws width bits k raw reached number table access f s (λ n. nothing (sym e ∙ n))
      where
        nothing : (a ∷ first) ≡ [] → ⊥
        nothing e = cc
