-- The complement of a canonical table is canonical for the complement.
use Rattle.std.proofs.Common.{◌≡◌, ◌≢◌, ℕ, zero, suc, ◌<◌, Bool, true, false, not, cond, List, [], ◌∷◌, ◌++◌, length, get_or, map, All, refl, ap, sym, ◌∙◌, subst, arith}
use Rattle.std.proofs.lemmas.List.{get_or_default, length-map}
use Rattle.dcv_word.specs.Behaviour.{Word, IsBehaviour}
use Rattle.dcv_word.specs.Letter.{bits_of}
use Rattle.dcv_language.specs.Language.{Language, outside}
use Rattle.dcv_language.specs.Automaton.{state_from}
use Rattle.dcv_language.specs.Table.{TableState, Table, IsTable, no_state, row_of, is_accepting, next_in, automaton_of, leads_to, AcceptsExactly}
use Rattle.dcv_language.specs.Apart.{AreApart}
use Rattle.dcv_language.specs.Canonical.{access_word, IsStart, IsCanonical}
use Rattle.dcv_language.specs.Complement.{stands_alone, flipped, complement}
use Rattle.dcv_language.specs.Laws.{ComplementIsCanonical}
use Rattle.dcv_language.proofs.Bounds.{leads_to-below}
use Rattle.dcv_language.proofs.Runs.{accepts_by_state}

-- ---- the states

row-flipped : (states : Table) (i : ℕ) → (get_or (map flipped states) i no_state).row ≡ (get_or states i no_state).row
row-flipped [] i = refl
row-flipped (state ∷ states) zero = refl
row-flipped (state ∷ states) (suc i) = row-flipped states i

flag-flipped : (states : Table) (i : ℕ) → i < length states → (get_or (map flipped states) i no_state).accepting ≡ not (get_or states i no_state).accepting
flag-flipped [] i h = absurd (omega arith)
flag-flipped (state ∷ states) zero h = refl
flag-flipped (state ∷ states) (suc i) h = flag-flipped states i (omega arith)

row-start : (alone : Bool) (start : TableState) → (cond alone start (flipped start)).row ≡ start.row
row-start true start = refl
row-start false start = refl

row_of-complement : (access : List Word) (table : Table) (state : ℕ) → row_of (complement access table) state ≡ row_of table state
row_of-complement access [] state = refl
row_of-complement access (start ∷ others) zero = row-start (stands_alone access) start
row_of-complement access (start ∷ others) (suc state) = row-flipped others state

length-complement : (access : List Word) (table : Table) → length (complement access table) ≡ length table
length-complement access [] = refl
length-complement access (start ∷ others) = ap suc (length-map others flipped)

flag-start : (alone : Bool) (start : TableState) → (alone ≡ true → ⊥) → (cond alone start (flipped start)).accepting ≡ not start.accepting
flag-start true start n = absurd (n refl)
flag-start false start n = refl

flag-complement : (access : List Word) (table : Table) (state : ℕ) → state < length table → (stands_alone access ≡ true → state ≢ 0)
    → is_accepting (complement access table) state ≡ not (is_accepting table state)
flag-complement access [] state h n = absurd (omega arith)
flag-complement access (start ∷ others) zero h n = flag-start (stands_alone access) start (λ e. n e refl)
flag-complement access (start ∷ others) (suc state) h n = flag-flipped others state (omega arith)

kept_start : (access : List Word) (table : Table) → stands_alone access ≡ true → is_accepting table 0 ≡ false → is_accepting (complement access table) 0 ≡ false
kept_start access [] e f = refl
kept_start access (start ∷ others) e f = ap (λ alone. (cond alone start (flipped start)).accepting) e ∙ f

from-complement : (access : List Word) (table : Table) (state : ℕ) (word : Word) → state_from (automaton_of (complement access table)) state word ≡ state_from (automaton_of table) state word
from-complement access table state [] = refl
from-complement access table state (a ∷ word) =
    ap (λ s. state_from (automaton_of (complement access table)) s word) (ap (λ row. get_or row (bits_of a) 0) (row_of-complement access table state))
    ∙ from-complement access table (next_in table state a) word

leads_to-complement : (access : List Word) (table : Table) (word : Word) → leads_to (complement access table) word ≡ leads_to table word
leads_to-complement access table word = from-complement access table 0 word

-- ---- what is apart

not_same : (a b : Bool) → not a ≡ not b → a ≡ b
not_same true true e = refl
not_same true false e = cc
not_same false true e = cc
not_same false false e = refl

module _ (k : ℕ) (L : Language) (u v : Word) where
  apart_outside : AreApart k L u v → AreApart k (outside L) u v
  apart_outside a = record {
    suffix = a.suffix;
    tells = record {
      first_goes_on = a.tells.first_goes_on;
      second_goes_on = a.tells.second_goes_on;
      differ = λ e. a.tells.differ (not_same (L (u ++ a.suffix)) (L (v ++ a.suffix)) e);
    };
  }

  apart_inside : AreApart k (outside L) u v → AreApart k L u v
  apart_inside a = record {
    suffix = a.suffix;
    tells = record {
      first_goes_on = a.tells.first_goes_on;
      second_goes_on = a.tells.second_goes_on;
      differ = λ e. a.tells.differ (ap not e);
    };
  }

-- ---- the law

alone_by_first : (access : List Word) → 0 < length access → access_word access 0 ≡ [] → stands_alone access ≡ true
alone_by_first [] h e = absurd (omega arith)
alone_by_first ([] ∷ words) h e = refl
alone_by_first ((a ∷ word) ∷ words) h e = absurd (nothing e)
  where
    nothing : (a ∷ word) ≡ [] → ⊥
    nothing e = cc

first_if_alone : (access : List Word) → stands_alone access ≡ true → access_word access 0 ≡ []
first_if_alone [] e = refl
first_if_alone ([] ∷ words) e = refl
first_if_alone ((a ∷ word) ∷ words) e = absurd (nothing e)
  where
    nothing : false ≡ true → ⊥
    nothing e = cc

module _ (k : ℕ) (L : Language) (table : Table) (access : List Word) (c : IsCanonical k L table access) where
  rows_of_states : (state : ℕ) (d : TableState) → state < length (complement access table) → get_or (complement access table) state d ≡ get_or (complement access table) state no_state
  rows_of_states state d h = get_or_default (complement access table) state d no_state h

  alone_entered : (first : Word) → access_word access 0 ≡ first → IsStart k L table first → stands_alone access ≡ true → (word : Word) → IsBehaviour k word → leads_to table word ≢ 0
  alone_entered [] e s alone word b = s.never_entered word b
  alone_entered (a ∷ first) e s alone word b = absurd (nothing (sym e ∙ first_if_alone access alone))
    where
      nothing : (a ∷ first) ≡ [] → ⊥
      nothing e = cc

  complement_states : IsTable k (complement access table)
  complement_states = record {
    nonempty = omega (arith, length-complement access table, c.states.nonempty);
    rows = λ state d h.
        ap (λ (s : TableState). length s.row) (rows_of_states state d h)
        ∙ ap length (row_of-complement access table state)
        ∙ c.states.rows state no_state (omega (arith, length-complement access table));
    numbers = λ state d h.
        subst (λ (s : TableState). All (λ number. number < length (complement access table)) s.row) (sym (rows_of_states state d h))
        (subst (λ row. All (λ number. number < length (complement access table)) row) (sym (row_of-complement access table state))
        (λ i e l. omega (arith, length-complement access table, c.states.numbers state no_state (omega (arith, length-complement access table)) i e l)));
  }

  complement_exact : AcceptsExactly k (complement access table) (outside L)
  complement_exact word b =
      accepts_by_state (automaton_of (complement access table)) word b.nonempty
      ∙ ap (is_accepting (complement access table)) (leads_to-complement access table word)
      ∙ flag-complement access table (leads_to table word) (leads_to-below k table c.states word) (λ alone. alone_entered (access_word access 0) refl c.start alone word b)
      ∙ ap not (sym (accepts_by_state (automaton_of table) word b.nonempty) ∙ c.exact word b)

  complement_start : (first : Word) → access_word access 0 ≡ first → IsStart k L table first → IsStart k (outside L) (complement access table) first
  complement_start [] e s = record {
    never_entered = λ word b z. s.never_entered word b (sym (leads_to-complement access table word) ∙ z);
    rejects = kept_start access table (alone_by_first access (omega (arith, c.words, c.states.nonempty)) e) s.rejects;
    apart = λ word b. apart_outside k L word [] (s.apart word b);
  }
  complement_start (a ∷ first) e s = record {
    leads = leads_to-complement access table (a ∷ first) ∙ s.leads;
    least = record {
      behaviour = s.least.behaviour;
      member = λ apart. s.least.member (apart_inside k L (a ∷ first) [] apart);
      least = λ other b like. s.least.least other b (λ apart. like (apart_outside k L other [] apart));
    };
  }

  complement_canonical : IsCanonical k (outside L) (complement access table) access
  complement_canonical = record {
    states = complement_states;
    exact = complement_exact;
    words = c.words ∙ sym (length-complement access table);
    start = complement_start (access_word access 0) refl c.start;
    least = λ state positive h.
        let least = c.least state positive (omega (arith, length-complement access table)) in
        record {
          behaviour = least.behaviour;
          member = leads_to-complement access table (access_word access state) ∙ least.member;
          least = λ other b e. least.least other b (sym (leads_to-complement access table other) ∙ e);
        };
    in_order = c.in_order;
    apart = λ i j d h l. apart_outside k L (get_or access i d) (get_or access j d) (c.apart i j d h l);
  }

pub complement_is_canonical : ComplementIsCanonical
complement_is_canonical = complement_canonical
