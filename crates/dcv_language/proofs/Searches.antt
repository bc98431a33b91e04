-- Words found by a breadth-first search are least: by induction on the word, from its front.
use Rattle.std.proofs.Common.{length-append, ap, refl, ◌∙◌, ◌≡◌, ℕ, Bool, List, [], ◌∷◌, ◌++◌, length, sym, subst, arith, append_assoc, append-nil}
use Rattle.std.specs.Prelude.{IsTrue}
use Rattle.dcv_word.specs.Behaviour.{Word, IsBehaviour}
use Rattle.dcv_language.specs.Automaton.{Automaton, state_after}
use Rattle.dcv_language.specs.Least.{IsLeastWhere, IsNoLater}
use Rattle.dcv_language.specs.Search.{IsSearched, IsSearchedBefore}
use Rattle.dcv_language.specs.Laws.{FrontOfLeastIsLeast, SearchFindsAll, SearchFindsAllBefore, FoundWordsAreLeastBefore, FoundWordsAreLeast}
use Rattle.dcv_language.proofs.Behaviours.{Widths, Widths-head, Widths-tail, Widths-rest, goes_on}
use Rattle.dcv_language.proofs.Runs.{state_from-append}
use Rattle.dcv_language.proofs.Words.{WordLaws, Before, irreflexive, no_later, no_later_chain, no_later_before, before_no_later_chain, no_later_end, not_later, front_before}

-- the state to which a word leads is found, by a word that is no later
pub record IsFoundBy (automaton : Automaton ℕ) (found : ℕ → Bool) (word_of : ℕ → Word) (word : Word) : Type 0 where
  pub found_state : IsTrue (found (state_after automaton word))
  pub early : IsNoLater (word_of (state_after automaton word)) word

module _ (laws : WordLaws) (k : ℕ) (automaton : Automaton ℕ) (found : ℕ → Bool) (word_of : ℕ → Word) (bound : Word) (s : IsSearchedBefore k automaton found word_of bound) where
  found_next : (u : Word) (a : List Bool) → IsFoundBy automaton found word_of u → length a ≡ k → Before (u ++ a ∷ []) bound → IsFoundBy automaton found word_of (u ++ a ∷ [])
  found_next u a f e before =
      let state = state_after automaton u in
      let leads = state_from-append automaton automaton.start u (a ∷ []) in
      let early = no_later_end laws (word_of state) u a f.early in
      let step = no_later_before laws (word_of state ++ a ∷ []) (u ++ a ∷ []) bound early before in
      record {
        found_state = subst (λ n. IsTrue (found n)) (sym leads) (s.goes_on state a f.found_state e step);
        early = subst (λ n. IsNoLater (word_of n) (u ++ a ∷ [])) (sym leads)
            (no_later_chain laws (word_of (automaton.next state a)) (word_of state ++ a ∷ []) (u ++ a ∷ [])
            (s.goes_on_early state a f.found_state e step) early);
      }

  found_on : (u v : Word) → IsFoundBy automaton found word_of u → Widths k v → Before (u ++ v) bound → IsFoundBy automaton found word_of (u ++ v)
  found_on u [] f w before = subst (λ x. IsFoundBy automaton found word_of x) (sym (append-nil u)) f
  found_on u (a ∷ v) f w before =
      let joined = append_assoc u (a ∷ []) v in
      let whole : Before ((u ++ a ∷ []) ++ v) bound = subst (λ x. Before x bound) (sym joined) before in
      subst (λ x. IsFoundBy automaton found word_of x) joined
      (found_on (u ++ a ∷ []) v (found_next u a f (Widths-head k a v w) (front_before laws (u ++ a ∷ []) v bound whole)) (Widths-tail k a v w) whole)

  pub found_before : (word : Word) → IsBehaviour k word → Before word bound → IsFoundBy automaton found word_of word
  found_before [] b before = absurd (omega (arith, b.nonempty))
  found_before (a ∷ word) b before =
      let width = Widths-head k a word b.widths in
      let first = front_before laws (a ∷ []) word bound before in
      found_on (a ∷ []) word (record { found_state = s.begins a width first; early = s.begins_early a width first }) (Widths-tail k a word b.widths) before

  pub least_before : (state : ℕ) → IsTrue (found state) → IsNoLater (word_of state) bound → IsLeastWhere k (λ word. state_after automaton word ≡ state) (word_of state)
  least_before state f within = record {
    behaviour = s.behaves state f;
    member = s.leads state f;
    least = λ other b e h.
        not_later laws (word_of state) other
        (subst (λ n. IsNoLater (word_of n) other) e (found_before other b (before_no_later_chain laws other (word_of state) bound h within)).early) h;
  }

-- a search that goes on to the end has gone on to any bound
searched_before : (k : ℕ) (automaton : Automaton ℕ) (found : ℕ → Bool) (word_of : ℕ → Word) (bound : Word) → IsSearched k automaton found word_of → IsSearchedBefore k automaton found word_of bound
searched_before k automaton found word_of bound s = record {
  behaves = s.behaves;
  leads = s.leads;
  begins = λ a e before. s.begins a e;
  begins_early = λ a e before. s.begins_early a e;
  goes_on = λ state a f e before. s.goes_on state a f e;
  goes_on_early = λ state a f e before. s.goes_on_early state a f e;
}

module _ (laws : WordLaws) (k : ℕ) (automaton : Automaton ℕ) (found : ℕ → Bool) (word_of : ℕ → Word) (s : IsSearched k automaton found word_of) where
  -- the bound is a longer word
  found_by : (word : Word) → IsBehaviour k word → IsFoundBy automaton found word_of word
  found_by word b =
      let bound = word ++ [] ∷ [] in
      found_before laws k automaton found word_of bound (searched_before k automaton found word_of bound s) word b
      (laws.shorter word bound (omega (arith, length-append word ([] ∷ []))))

  pub finds : (word : Word) → IsBehaviour k word → IsTrue (found (state_after automaton word))
  finds word b = (found_by word b).found_state

  pub found_early : (word : Word) → IsBehaviour k word → IsNoLater (word_of (state_after automaton word)) word
  found_early word b = (found_by word b).early

  pub found_least : (state : ℕ) → IsTrue (found state) → IsLeastWhere k (λ word. state_after automaton word ≡ state) (word_of state)
  found_least state f =
      least_before laws k automaton found word_of (word_of state) (searched_before k automaton found word_of (word_of state) s) state f
      (no_later laws (word_of state) (word_of state) (irreflexive laws (word_of state)))

pub search_finds_all_before : WordLaws → SearchFindsAllBefore
search_finds_all_before laws k automaton found word_of bound word s b before =
    let f = found_before laws k automaton found word_of bound s word b before in (f.found_state, f.early)

pub found_words_are_least_before : WordLaws → FoundWordsAreLeastBefore
found_words_are_least_before laws k automaton found word_of bound state s = least_before laws k automaton found word_of bound s state

pub search_finds_all : WordLaws → SearchFindsAll
search_finds_all laws k automaton found word_of word s = finds laws k automaton found word_of s word

pub found_words_are_least : WordLaws → FoundWordsAreLeast
found_words_are_least laws k automaton found word_of state s = found_least laws k automaton found word_of s state

pub front_of_least_is_least : WordLaws → FrontOfLeastIsLeast
front_of_least_is_least laws k automaton front letter b l = record {
  behaviour = b;
  member = refl;
  least = λ other c e h.
      l.least (other ++ letter ∷ []) (goes_on k other (letter ∷ []) c (Widths-rest k front (letter ∷ []) l.behaviour.widths))
      (state_from-append automaton automaton.start other (letter ∷ []) ∙ ap (λ s. automaton.next s letter) e ∙ sym (state_from-append automaton automaton.start front (letter ∷ [])))
      (laws.end other front (letter ∷ []) ∙ h);
}
