-- Words that are apart lead to different states, so there are no more of them than states.
use Rattle.std.proofs.Common.{◌≡◌, ◌≢◌, ℕ, ◌<◌, ◌≤◌, Bool, true, false, eqb, List, [], ◌∷◌, ◌++◌, length, get_or, map, AllPairs, ⊎_elim, ap, sym, ◌∙◌, subst, arith}
use Rattle.std.specs.List.{list_any}
use Rattle.std.proofs.lemmas.Bool.{cases_lt, eqb-true, ne_eqb}
use Rattle.std.proofs.lemmas.List.{get_or-map, get_or_past, length-map}
use Rattle.std.proofs.lemmas.List.Folds.{Any-from_list_any}
use Rattle.std.proofs.lemmas.Map.Steps.{length-le_from_distinct_below}
use Rattle.std.proofs.lemmas.Map.Keys.{IsDistinct-from_apart}
use Rattle.dcv_word.specs.Behaviour.{Word, IsBehaviour}
use Rattle.dcv_word.specs.Letter.{bits_of}
use Rattle.dcv_language.specs.Language.{Language}
use Rattle.dcv_language.specs.Automaton.{state_from, accepts_from}
use Rattle.dcv_language.specs.Table.{Table, IsTable, no_state, row_of, next_in, automaton_of, leads_to, AcceptsExactly}
use Rattle.dcv_language.specs.Apart.{AreApart}
use Rattle.dcv_language.specs.Laws.{WordsApartAreNoMoreThanStates, CertifiedIsMinimal}
use Rattle.dcv_language.proofs.Runs.{accepts_on}

-- ---- the states of a table

module _ (k : ℕ) (table : Table) (t : IsTable k table) where
  pub next-below : (state : ℕ) (a : List Bool) → state < length table → next_in table state a < length table
  next-below state a h = ⊎_elim
      (λ within. t.numbers state no_state h (bits_of a) 0 within)
      (λ past. subst (λ n. n < length table) (sym (get_or_past (row_of table state) (bits_of a) 0 past)) t.nonempty)
      (cases_lt (bits_of a) (length (row_of table state)))

  from_below : (state : ℕ) (word : Word) → state < length table → state_from (automaton_of table) state word < length table
  from_below state [] h = h
  from_below state (a ∷ word) h = from_below (next_in table state a) word (next-below state a h)

  pub leads_to-below : (word : Word) → leads_to table word < length table
  leads_to-below word = from_below 0 word t.nonempty

-- ---- words that lead to one state go on alike

module _ (k : ℕ) (L : Language) (table : Table) (exact : AcceptsExactly k table L) where
  pub alike : (u v suffix : Word) → leads_to table u ≡ leads_to table v → IsBehaviour k (u ++ suffix) → IsBehaviour k (v ++ suffix) → L (u ++ suffix) ≡ L (v ++ suffix)
  alike u v suffix e b c =
      sym (exact (u ++ suffix) b)
      ∙ accepts_on (automaton_of table) u suffix b.nonempty
      ∙ ap (λ state. accepts_from (automaton_of table) state suffix) e
      ∙ sym (accepts_on (automaton_of table) v suffix c.nonempty)
      ∙ exact (v ++ suffix) c

  pub apart_states : (u v : Word) → AreApart k L u v → leads_to table u ≢ leads_to table v
  apart_states u v a e = a.tells.differ (alike u v a.suffix e a.tells.first_goes_on a.tells.second_goes_on)

-- ---- the bound

module _ (k : ℕ) (L : Language) (words : List Word) (table : Table) (apart : AllPairs (AreApart k L) words) (t : IsTable k table) (exact : AcceptsExactly k table L) where
  states : List ℕ
  states = map (leads_to table) words

  state_at : (i d : ℕ) → i < length words → get_or states i d ≡ leads_to table (get_or words i [])
  unfolding states
  state_at i d h = get_or-map (leads_to table) words i [] d h

  states_many : length states ≡ length words
  unfolding states
  states_many = length-map words (leads_to table)

  states_differ : (i j d : ℕ) → i < j → j < length states → eqb (get_or states i d) (get_or states j d) ≡ false
  states_differ i j d h l =
      let below : j < length words = omega (arith, states_many) in
      ne_eqb (get_or states i d) (get_or states j d) (λ e. apart_states k L table exact (get_or words i []) (get_or words j []) (apart i j [] h below)
      (sym (state_at i d (omega arith)) ∙ e ∙ state_at j d below))

  state_below : (q : ℕ) → list_any (eqb q) states ≡ true → q < length table
  state_below q e =
      let some = Any-from_list_any (eqb q) states e in
      let within : some.0 < length words = omega (arith, states_many, some.2) in
      let is : q ≡ leads_to table (get_or words some.0 []) = eqb-true q some.1 some.4 ∙ sym some.3 ∙ state_at some.0 some.1 within in
      subst (λ n. n < length table) (sym is) (leads_to-below k table t (get_or words some.0 []))

  pub no_more_than_states : length words ≤ length table
  no_more_than_states = subst (λ n. n ≤ length table) states_many
      (length-le_from_distinct_below states (length table) (IsDistinct-from_apart eqb states states_differ) state_below)

pub words_apart_are_no_more_than_states : WordsApartAreNoMoreThanStates
words_apart_are_no_more_than_states = no_more_than_states

pub certified_is_minimal : CertifiedIsMinimal
certified_is_minimal k L access suffixes table certificate t exact =
    no_more_than_states k L access table (λ i j d h l. let told = certificate.told i j d h l in record { suffix = told.suffix; tells = told.tells }) t exact
