-- Tables of few states that are seen to be canonical by computing: finitely many tests of states and letters show that the table,
-- taken as a raw automaton in which each state is a class of its own, is a folding. The worked examples stand on this.
use Rattle.std.proofs.Common.{◌≡◌, ◌≢◌, ◌⊎◌, ⊎_elim, ℕ, zero, suc, ◌<◌, ◌^◌, Bool, true, false, not, ltb, eqb, ◌&&◌, ◌||◌, List, [], ◌∷◌, ◌++◌, length, get_or, drop, map, All, AllPairs, refl, ap, sym, ◌∙◌, subst, arith}
use Rattle.std.specs.Prelude.{IsTrue}
use Rattle.std.specs.List.{list_all}
use Rattle.std.specs.Ordering.{is_lt, is_le}
use Rattle.std.specs.declared.cmp.Ordering.{Ordering}
use Rattle.std.specs.declared.cmp.Ordering.TheVariants.{Less, Equal, Greater}
use Rattle.std.proofs.lemmas.Bool.{and_parts, or_cases, ltb-true, eqb-true, eq-eqb, ne_eqb, both_ways, not-true, true≢false}
use Rattle.std.proofs.lemmas.List.{get_or_default}
use Rattle.std.proofs.lemmas.List.Folds.{list_all-append, list_all-map}
use Rattle.std.proofs.lemmas.List.Sums.{AllPass-from_list_all}
use Rattle.dcv_word.specs.Behaviour.{Word, IsBehaviour}
use Rattle.dcv_word.specs.Letter.{letters_of_width}
use Rattle.dcv_word.specs.Word.{shortlex_order}
use Rattle.dcv_word.specs.Laws.{LetterHasItsWidth, BitsOfItsLetter}
use Rattle.dcv_language.specs.Language.{Language}
use Rattle.dcv_language.specs.Least.{IsNoLater}
use Rattle.dcv_language.specs.Automaton.{accepts_from}
use Rattle.dcv_language.specs.Table.{TableState, Table, IsTable, no_state, row_of, is_accepting, next_in, automaton_of, leads_to, table_accepts, AcceptsExactly}
use Rattle.dcv_language.specs.Canonical.{access_word, IsCanonical}
use Rattle.dcv_language.specs.Folding.{AreApartFrom, StartIsAlone, StartIsShared, StartIsAloneOrShared, IsFolding}
use Rattle.dcv_language.proofs.Canonicals.{canonical_for_same_behaviours}
use Rattle.dcv_language.proofs.Foldings.{folding_is_canonical}
use Rattle.dcv_language.proofs.Words.{WordLaws}

-- ---- tests of all numbers below another, and of all letters of a width

abbrev pub each_below : ℕ → (ℕ → Bool) → Bool
each_below zero p = true
each_below (suc n) p = p n && each_below n p

below_last : (s n : ℕ) → s < suc n → (s ≡ n) ⊎ (s < n)
below_last s n h = grind arith

pub each_below-at : (n : ℕ) (p : ℕ → Bool) → each_below n p ≡ true → (s : ℕ) → s < n → p s ≡ true
each_below-at zero p e s h = absurd (omega arith)
each_below-at (suc n) p e s h =
    let parts = and_parts (p n) (each_below n p) e in
    ⊎_elim (λ same. ap p same ∙ parts.0) (λ less. each_below-at n p parts.1 s less) (below_last s n h)

abbrev pub each_letter : ℕ → (List Bool → Bool) → Bool
each_letter k p = list_all p (letters_of_width k)

pub each_letter-at : (k : ℕ) (p : List Bool → Bool) → each_letter k p ≡ true → (letter : List Bool) → length letter ≡ k → p letter ≡ true
each_letter-at zero p e [] h = (and_parts (p []) true e).0
each_letter-at zero p e (v ∷ letter) h = absurd (omega arith)
each_letter-at (suc k) p e [] h = absurd (omega arith)
each_letter-at (suc k) p e (v ∷ letter) h =
    let falses = map (λ values. false ∷ values) (letters_of_width k) in
    let trues = map (λ values. true ∷ values) (letters_of_width k) in
    let parts = and_parts (list_all p falses) (list_all p trues) (sym (list_all-append p falses trues) ∙ e) in
    by_value v
    (each_letter-at k (λ values. p (false ∷ values)) (sym (list_all-map p (λ values. false ∷ values) (letters_of_width k)) ∙ parts.0) letter (omega arith))
    (each_letter-at k (λ values. p (true ∷ values)) (sym (list_all-map p (λ values. true ∷ values) (letters_of_width k)) ∙ parts.1) letter (omega arith))
  where
    by_value : (v : Bool) → p (false ∷ letter) ≡ true → p (true ∷ letter) ≡ true → p (v ∷ letter) ≡ true
    by_value false f g = f
    by_value true f g = g

-- ---- tests of words and rows

abbrev pub same_numbers : List ℕ → List ℕ → Bool
same_numbers [] [] = true
same_numbers [] (y ∷ ys) = false
same_numbers (x ∷ xs) [] = false
same_numbers (x ∷ xs) (y ∷ ys) = eqb x y && same_numbers xs ys

same_numbers-itself : (xs : List ℕ) → same_numbers xs xs ≡ true
same_numbers-itself [] = refl
same_numbers-itself (x ∷ xs) = (λ i. eq-eqb x x refl i && same_numbers-itself xs i)

abbrev pub has_width : ℕ → Word → Bool
has_width k word = list_all (λ letter. eqb (length letter) k) word

widths : (k : ℕ) (word : Word) → has_width k word ≡ true → All (λ (letter : List Bool). length letter ≡ k) word
widths k word e i d h = eqb-true (length (get_or word i d)) k (AllPass-from_list_all (λ letter. eqb (length letter) k) word e i d h)

no_later : (u v : Word) → is_le (shortlex_order u v) ≡ true → IsNoLater u v
no_later u v e g = true≢false (sym e ∙ ap is_le g)

is_less : (o : Ordering) → is_lt o ≡ true → o ≡ Less
is_less Less e = refl
is_less Equal e = cc
is_less Greater e = cc

abbrev pub iff_not : Bool → Bool → Bool
iff_not true b = not b
iff_not false b = b

differ : (a b : Bool) → iff_not a b ≡ true → a ≢ b
differ true true e = absurd (true≢false (sym e))
differ true false e = true≢false
differ false true e = λ h. true≢false (sym h)
differ false false e = absurd (true≢false (sym e))

skipped : (a b : Bool) → (a || b) ≡ true → a ≡ false → b ≡ true
skipped true b e f = cc
skipped false b e f = e

-- ---- the tests of a table

-- the states that behaviours may enter: not a start that stands alone
abbrev pub entered : Bool → Table → ℕ → Bool
entered alone table state = ltb state (length table) && not (alone && eqb state 0)

-- the tests, each to be computed: told gives a suffix for each two states
pub record IsShown (k : ℕ) (table : Table) (access : List Word) (alone : Bool) (told : ℕ → ℕ → Word) : Type 0 where
  pub nonempty : ltb 0 (length table) ≡ true
  pub rows : each_below (length table) (λ s. eqb (length (row_of table s)) (2 ^ k)) ≡ true
  pub numbers : each_below (length table) (λ s. list_all (λ n. ltb n (length table)) (row_of table s)) ≡ true
  pub words : length access ≡ length table
  pub enters : each_below (length table) (λ s. each_letter k (λ a. entered alone table (next_in table s a))) ≡ true
  pub apart : each_below (length table) (λ s. each_below (length table) (λ t. eqb s t ||
      (has_width k (told s t) && iff_not (accepts_from (automaton_of table) s (told s t)) (accepts_from (automaton_of table) t (told s t))))) ≡ true
  pub behave : each_below (length table) (λ s. (alone && eqb s 0) || (ltb 0 (length (access_word access s)) && has_width k (access_word access s))) ≡ true
  pub lead : each_below (length table) (λ s. eqb (leads_to table (access_word access s)) s) ≡ true
  pub begin_early : each_letter k (λ a. is_le (shortlex_order (access_word access (next_in table 0 a)) (a ∷ []))) ≡ true
  pub go_on_early : each_below (length table) (λ s. eqb s 0 ||
      each_letter k (λ a. is_le (shortlex_order (access_word access (next_in table s a)) (access_word access s ++ a ∷ [])))) ≡ true
  pub ascend : each_below (length (drop 1 access)) (λ j. each_below j (λ i.
      is_lt (shortlex_order (get_or (drop 1 access) i []) (get_or (drop 1 access) j [])))) ≡ true
  pub start_is_alone : alone ≡ eqb (length (access_word access 0)) 0
  pub alone_rejects : (alone && is_accepting table 0) ≡ false
  pub other_rows : each_below (length table) (λ s. eqb s 0 || ((not alone && not (is_lt (shortlex_order (access_word access s) (access_word access 0))))
      || not (same_numbers (row_of table s) (row_of table 0)))) ≡ true

module _ (k : ℕ) (table : Table) (access : List Word) (alone : Bool) (told : ℕ → ℕ → Word) (t : IsShown k table access alone told) where
  not_zero : (s : ℕ) → 0 < s → eqb s 0 ≡ false
  not_zero s h = ne_eqb s 0 (λ e. absurd (omega arith))

  is_table : IsTable k table
  is_table = record {
    nonempty = ltb-true 0 (length table) t.nonempty;
    rows = λ s d h. ap (λ (state : TableState). length state.row) (get_or_default table s d no_state h)
        ∙ eqb-true (length (row_of table s)) (2 ^ k) (each_below-at (length table) _ t.rows s h);
    numbers = λ s d h. subst (λ (state : TableState). All (λ number. number < length table) state.row) (get_or_default table s no_state d h)
        (λ i e l. ltb-true (get_or (row_of table s) i e) (length table) (AllPass-from_list_all (λ m. ltb m (length table)) (row_of table s) (each_below-at (length table) _ t.numbers s h) i e l));
  }

  state_of : (s : ℕ) → IsTrue (entered alone table s) → s < length table
  state_of s e = ltb-true s (length table) (and_parts (ltb s (length table)) (not (alone && eqb s 0)) e).0

  behaves_at : (s : ℕ) → s < length table → (alone && eqb s 0) ≡ false → IsBehaviour k (access_word access s)
  behaves_at s h e =
      let word = access_word access s in
      let parts = and_parts (ltb 0 (length word)) (has_width k word) (skipped (alone && eqb s 0) (ltb 0 (length word) && has_width k word) (each_below-at (length table) _ t.behave s h) e) in
      record { nonempty = ltb-true 0 (length word) parts.0; widths = widths k word parts.1 }

  further_behaves : (s : ℕ) → 0 < s → s < length table → IsBehaviour k (access_word access s)
  further_behaves s more h = behaves_at s h (further alone (not_zero s more))
    where
      further : (b : Bool) → eqb s 0 ≡ false → (b && eqb s 0) ≡ false
      further true e = e
      further false e = refl

  leads_at : (s : ℕ) → s < length table → leads_to table (access_word access s) ≡ s
  leads_at s h = eqb-true (leads_to table (access_word access s)) s (each_below-at (length table) _ t.lead s h)

  enters_at : (s : ℕ) (letter : List Bool) → s < length table → length letter ≡ k → IsTrue (entered alone table (next_in table s letter))
  enters_at s letter h e = each_letter-at k (λ a. entered alone table (next_in table s a)) (each_below-at (length table) _ t.enters s h) letter e

  apart_at : (s u : ℕ) → s < length table → u < length table → s ≢ u → AreApartFrom k (automaton_of table) s u
  apart_at s u h l n =
      let suffix = told s u in
      let test = iff_not (accepts_from (automaton_of table) s suffix) (accepts_from (automaton_of table) u suffix) in
      let parts = and_parts (has_width k suffix) test
      (skipped (eqb s u) (has_width k suffix && test) (each_below-at (length table) _ (each_below-at (length table) _ t.apart s h) u l) (ne_eqb s u n)) in
      record { suffix = suffix; widths = widths k suffix parts.0; differ = differ (accepts_from (automaton_of table) s suffix) (accepts_from (automaton_of table) u suffix) parts.1 }

  ascends : AllPairs (λ first second. shortlex_order first second ≡ Less) (drop 1 access)
  ascends i j d h l =
      let rest = drop 1 access in
      let test = is_less (shortlex_order (get_or rest i []) (get_or rest j [])) (each_below-at j _ (each_below-at (length rest) _ t.ascend j l) i h) in
      (λ x. shortlex_order (get_or_default rest i d [] (omega arith) x) (get_or_default rest j d [] l x)) ∙ test

  -- where a state has the row of the start, its word is no earlier
  other_row : (s : ℕ) → 0 < s → s < length table → (alone ≡ false → shortlex_order (access_word access s) (access_word access 0) ≡ Less) → row_of table s ≢ row_of table 0
  other_row s more h earlier e =
      let before = is_lt (shortlex_order (access_word access s) (access_word access 0)) in
      let same = same_numbers (row_of table s) (row_of table 0) in
      let is_same : same ≡ true = ap (λ row. same_numbers row (row_of table 0)) e ∙ same_numbers-itself (row_of table 0) in
      ⊎_elim
      (λ kept. let parts = and_parts (not alone) (not before) kept in
      both_ways before (not-true before parts.1) (ap is_lt (earlier (not-true alone parts.0))))
      (λ differs. both_ways same (not-true same differs) is_same)
      (or_cases (not alone && not before) (not same) (skipped (eqb s 0) ((not alone && not before) || not same) (each_below-at (length table) _ t.other_rows s h) (not_zero s more)))

  alone_start : alone ≡ true → StartIsAlone table (entered alone table) (λ s. s)
  alone_start e = record {
    never_entered = λ s is zero.
        let not_start = (and_parts (ltb s (length table)) (not (alone && eqb s 0)) is).1 in
        both_ways (alone && eqb s 0) (not-true (alone && eqb s 0) not_start) ((λ i. e i && eq-eqb s 0 zero i));
    rejects = sym (ap (λ b. b && is_accepting table 0) e) ∙ t.alone_rejects;
    other_rows = λ s more h. other_row s more h (λ f. absurd (both_ways alone f e));
  }

  shared_start : alone ≡ false → StartIsShared k table access
  shared_start e = record {
    behaves = behaves_at 0 (ltb-true 0 (length table) t.nonempty) (ap (λ b. b && eqb 0 0) e);
    leads = leads_at 0 (ltb-true 0 (length table) t.nonempty);
    other_rows = λ s more h earlier. other_row s more h (λ f. earlier);
  }

  folded : (first : Word) → access_word access 0 ≡ first → StartIsAloneOrShared k table access (entered alone table) (λ s. s) first
  folded [] e = alone_start (t.start_is_alone ∙ ap (λ (word : Word). eqb (length word) 0) e)
  folded (a ∷ first) e = shared_start (t.start_is_alone ∙ ap (λ (word : Word). eqb (length word) 0) e ∙ ne_eqb (suc (length first)) 0 (λ z. absurd (omega arith)))

  pub shown_folding : IsFolding k (automaton_of table) (entered alone table) (λ s. s) table access
  shown_folding = record {
    states = is_table;
    words = t.words;
    begins = λ letter e. enters_at 0 letter (ltb-true 0 (length table) t.nonempty) e;
    goes_on = λ s letter is e. enters_at s letter (state_of s is) e;
    flags = λ s is. refl;
    steps = λ s letter is e. refl;
    start_steps = λ letter e. refl;
    apart = λ s u is_s is_u n. apart_at s u (state_of s is_s) (state_of u is_u) n;
    behaves = further_behaves;
    leads = λ s more h. leads_at s h;
    begins_early = λ letter e. no_later (access_word access (next_in table 0 letter)) (letter ∷ []) (each_letter-at k _ t.begin_early letter e);
    goes_on_early = λ s letter more h e.
        no_later (access_word access (next_in table s letter)) (access_word access s ++ letter ∷ [])
        (each_letter-at k _ (skipped (eqb s 0) _ (each_below-at (length table) _ t.go_on_early s h) (not_zero s more)) letter e);
    in_order = ascends;
    start = folded (access_word access 0) refl;
  }

-- a table for which the tests are computed is canonical for each set that it accepts exactly
pub shown_canonical : WordLaws → LetterHasItsWidth → BitsOfItsLetter → (k : ℕ) (L : Language) (table : Table) (access : List Word) (alone : Bool) (told : ℕ → ℕ → Word)
    → IsShown k table access alone told → AcceptsExactly k table L → IsCanonical k L table access
shown_canonical laws width bits k L table access alone told t exact =
    canonical_for_same_behaviours k (table_accepts table) L table access exact
    (folding_is_canonical laws width bits k (automaton_of table) (entered alone table) (λ s. s) table access (shown_folding k table access alone told t))
