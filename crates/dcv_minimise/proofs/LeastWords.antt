-- The states that behaviours lead to and their least words, as two lists; and how the words stand in order.
use Rattle.std.proofs.Common.{◌≡◌, ℕ, ◌<◌, ◌≤◌, List, [], length, get_or, AllPairs, Contains, None, ⊎_elim, sym, ap, subst, ◌∙◌, arith}
use Rattle.std.proofs.lemmas.Bool.{cases_lt, cases_order}
use Rattle.std.proofs.lemmas.List.{length-map, get_or-map, get_or_past, get_or_default}
use Rattle.std.proofs.lemmas.Option.{slice_get-get_or}
use Rattle.dcv_word.specs.Behaviour.{Word, IsBehaviour}
use Rattle.dcv_word.proofs.Orders.{shortlex_total, words_Equal, shortlex-shorter, shortlex-front, shortlex-end, shortlex-ends}
use Rattle.dcv_language.specs.Automaton.{Automaton, state_after}
use Rattle.dcv_language.specs.Least.{IsLeastWhere, IsNoLater}
use Rattle.dcv_language.proofs.Words.{WordLaws, Before, irreflexive, no_later, before_no_later}
use Rattle.dcv_dfa.specs.Raw.{RawValue, IsRaw, automaton_of}
use Rattle.dcv_dfa.proofs.States.{stays_below}
use Rattle.dcv_reach.specs.Reached.{words_of, states_of, IsReached}
use Rattle.dcv_reach.specs.declared.reached.Found.{Found}

-- the laws of the order of words
pub word_laws : WordLaws
word_laws = record { total = shortlex_total; same = words_Equal; shorter = shortlex-shorter; front = shortlex-front; end = shortlex-end; ends = shortlex-ends }

-- a word is no later than itself
no_later_itself : (word : Word) → IsNoLater word word
no_later_itself word = no_later word_laws word word (irreflexive word_laws word)

-- the word at each place is the least that leads to the state there, and each state that a behaviour leads to is listed
pub record AreReachedBy (k : ℕ) (automaton : Automaton ℕ) (states : List ℕ) (words : List Word) : Type 0 where
  pub least : (place : ℕ) → place < length states → IsLeastWhere k (λ word. state_after automaton word ≡ get_or states place 0) (get_or words place [])
  pub all : (word : Word) → IsBehaviour k word → Contains states (state_after automaton word)
  pub in_order : AllPairs Before words

-- a state and its word stand at one place
pub record IsAt (states : List ℕ) (words : List Word) (state : ℕ) (word : Word) : Type 0 where
  pub place : ℕ
  pub within : place < length states
  pub state_is : get_or states place 0 ≡ state
  pub word_is : get_or words place [] ≡ word

module _ (k : ℕ) (automaton : Automaton ℕ) (states : List ℕ) (words : List Word) (reached : AreReachedBy k automaton states words) where
  -- there is a word for each state, since no behaviour is empty
  within_words : (place : ℕ) → place < length states → place < length words
  within_words place within = ⊎_elim
      (λ inside. inside)
      (λ past. let none : length (get_or words place []) ≡ 0 = ap length (get_or_past words place [] past) in absurd (omega (arith, (reached.least place within).behaviour.nonempty, none)))
      (cases_lt place (length words))

  pub before_at : (first second : ℕ) → first < second → second < length states → Before (get_or words first []) (get_or words second [])
  before_at first second less within = reached.in_order first second [] less (within_words second within)

  pub no_later_at : (first second : ℕ) → first ≤ second → second < length states → IsNoLater (get_or words first []) (get_or words second [])
  no_later_at first second le within = ⊎_elim
      (λ same. subst (λ place. IsNoLater (get_or words first []) (get_or words place [])) same (no_later_itself (get_or words first [])))
      (λ s. ⊎_elim
      (λ less. before_no_later word_laws (get_or words first []) (get_or words second []) (before_at first second less within))
      (λ more. absurd (omega arith)) s)
      (cases_order first second)

  -- a state and its word
  pub least_at : (state : ℕ) (word : Word) → IsAt states words state word → IsLeastWhere k (λ other. state_after automaton other ≡ state) word
  least_at state word at =
      subst (λ s. IsLeastWhere k (λ other. state_after automaton other ≡ s) word) at.state_is
      (subst (λ w. IsLeastWhere k (λ other. state_after automaton other ≡ get_or states at.place 0) w) at.word_is (reached.least at.place at.within))

  -- the place of a listed state
  pub place_of : (state : ℕ) (listed : Contains states state) → get_or states listed.0 0 ≡ state
  place_of state listed = get_or_default states listed.0 0 state listed.1 ∙ listed.2

module _ (raw : RawValue) (is : IsRaw raw) (states : List ℕ) (words : List Word) (reached : AreReachedBy raw.arena.slots (automaton_of raw) states words) where
  -- the states that are listed are states
  pub listed_inside : (place : ℕ) → place < length states → get_or states place 0 < length raw.rows
  listed_inside place within =
      let least = reached.least place within in
      subst (λ state. state < length raw.rows) least.member (stays_below raw is raw.start (get_or words place []) is.start least.behaviour.widths)

  pub contained_inside : (state : ℕ) → Contains states state → state < length raw.rows
  contained_inside state listed =
      subst (λ s. s < length raw.rows) (place_of raw.arena.slots (automaton_of raw) states words reached state listed) (listed_inside listed.0 listed.1)

-- what was found, as two lists
no_one : Found
no_one = record { state = 0; before = None; letter = [] }

pub by_found : (k : ℕ) (automaton : Automaton ℕ) (found : List Found) → IsReached k automaton found → AreReachedBy k automaton (states_of found) (words_of found)
by_found k automaton found is = record {
  least = λ place within.
      let here : place < length found = omega (arith, length-map found (λ (one : Found). one.state)) in
      subst (λ state. IsLeastWhere k (λ word. state_after automaton word ≡ state) (get_or (words_of found) place []))
      (sym (get_or-map (λ (one : Found). one.state) found place no_one 0 here))
      (is.least place (get_or found place no_one) (slice_get-get_or found place no_one here));
  all = is.all;
  in_order = is.in_order;
}
