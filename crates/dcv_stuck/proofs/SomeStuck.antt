-- A set with a canonical table has a least stuck word, or no stuck word: what the automaton of its stuck words accepts has a canonical table too.
use Rattle.std.proofs.Common.{◌≡◌, ◌≢◌, ℕ, ◌+◌, ◌<◌, ◌≤◌, Bool, true, false, List, [], length, Option, None, Some, ◌⊎◌, inl, inr, refl, sym, ◌∙◌, subst, arith}
use Rattle.std.specs.Prelude.{◌↔◌, MatchOption}
use Rattle.std.specs.List.{range_with_len}
use Rattle.std.proofs.lemmas.Bool.{cases_Bool, cases_eq, cases_lt, not-true, true≢false}
use Rattle.std.proofs.lemmas.List.FromFn.{get_or-range_with_len, length-range_with_len}
use Rattle.dcv_word.specs.Behaviour.{Word, IsBehaviour}
use Rattle.dcv_language.specs.Automaton.{Automaton, WorkingMachine, IsReached, accepts}
use Rattle.dcv_language.specs.Least.{IsLeastWhere}
use Rattle.dcv_language.specs.Table.{automaton_of, table_accepts}
use Rattle.dcv_language.specs.Verdict.{IsLeastOf}
use Rattle.dcv_language.proofs.Ascending.{Member, Member-at}
use Rattle.dcv_language.proofs.Bounds.{next-below}
use Rattle.dcv_language.proofs.Runs.{reached_has}
use Rattle.dcv_quotient.proofs.Reaching.{SomeLetter, each_letter_or, found_within}
use Rattle.dcv_quotient.proofs.SomeTables.{some_canonical}
use Rattle.dcv_quotient.proofs.SomeVerdicts.{some_least}
use Rattle.dcv_quotient.proofs.WordOrder.{word_laws}
use Rattle.dcv_dfa.specs.Table.{HasStates}
use Rattle.dcv_stuck.specs.Laws.{SomeLeastStuck}
use Rattle.dcv_stuck.specs.Sink.{number_of, HasStuckWords}
use Rattle.dcv_stuck.specs.Stuck.{IsLeastStuckOf}
use Rattle.dcv_stuck.proofs.Answers.{least_stuck_of_same_behaviours}
use Rattle.dcv_stuck.proofs.LeastStuck.{empty_is_least, least_accepted}
use Rattle.dcv_stuck.proofs.StuckWords.{number_below}

-- a number below the count is one of the numbers from 0 on
among_numbers : (count state : ℕ) → state < count → Member state (range_with_len 0 count)
among_numbers count state below =
    let same : 0 + state ≡ state = omega arith in
    subst (λ number. Member number (range_with_len 0 count)) (get_or-range_with_len 0 count state 0 below ∙ same)
    (Member-at (range_with_len 0 count) state 0 (omega (arith, below, length-range_with_len 0 count)))

module _ (k sink : ℕ) (automaton : Automaton ℕ) (states : HasStates automaton k sink) where
  -- ---- the automaton of the stuck words

  abbrev next_by : (state : ℕ) → (state < sink) ⊎ (sink ≤ state) → List Bool → ℕ
  next_by state (inl below) letter = number_of automaton sink (automaton.next state letter)
  next_by state (inr past) letter = sink

  abbrev next : ℕ → List Bool → ℕ
  next state = next_by state (cases_lt state sink)

  abbrev LeadsToSink : ℕ → Type 0
  LeadsToSink state = (letter : List Bool) → length letter ≡ k → next state letter ≡ sink

  leads_or_not : (state : ℕ) → LeadsToSink state ⊎ SomeLetter k (λ letter. next state letter ≡ sink)
  leads_or_not state = each_letter_or k (λ letter. next state letter ≡ sink) (λ letter width. cases_eq (next state letter) sink)

  abbrev flag_by : (state : ℕ) → (state < sink) ⊎ (sink ≤ state) → LeadsToSink state ⊎ SomeLetter k (λ letter. next state letter ≡ sink) → Bool
  flag_by state (inl below) (inl all) = true
  flag_by state (inl below) (inr some) = false
  flag_by state (inr past) leads = false

  abbrev stuck : Automaton ℕ
  stuck = record { start = automaton.start; next = next; accepting = λ state. flag_by state (cases_lt state sink) (leads_or_not state) }

  next_there : (state : ℕ) (order : (state < sink) ⊎ (sink ≤ state)) (letter : List Bool) → state < sink → next_by state order letter ≡ number_of automaton sink (automaton.next state letter)
  next_there state (inl below) letter h = refl
  next_there state (inr past) letter h = absurd (omega arith)

  next_of_sink : (order : (sink < sink) ⊎ (sink ≤ sink)) (letter : List Bool) → next_by sink order letter ≡ sink
  next_of_sink (inl below) letter = absurd (omega arith)
  next_of_sink (inr past) letter = refl

  flag_there : (state : ℕ) (order : (state < sink) ⊎ (sink ≤ state)) (leads : LeadsToSink state ⊎ SomeLetter k (λ letter. next state letter ≡ sink)) → state < sink
      → (flag_by state order leads ≡ true) ↔ LeadsToSink state
  flag_there state (inl below) (inl all) h = (λ e. all, λ again. refl)
  flag_there state (inl below) (inr some) h = (λ e. absurd (true≢false (sym e)), λ all. absurd (some.fails (all some.letter some.width)))
  flag_there state (inr past) leads h = absurd (omega arith)

  flag_of_sink : (order : (sink < sink) ⊎ (sink ≤ sink)) (leads : LeadsToSink sink ⊎ SomeLetter k (λ letter. next sink letter ≡ sink)) → flag_by sink order leads ≡ false
  flag_of_sink (inl below) leads = absurd (omega arith)
  flag_of_sink (inr past) leads = refl

  has : HasStuckWords k sink automaton stuck
  has = record {
    states = states;
    start = refl;
    steps = λ state letter below width. next_there state (cases_lt state sink) letter below;
    stays = λ letter width. next_of_sink (cases_lt sink sink) letter;
    flags = λ state below. flag_there state (cases_lt state sink) (leads_or_not state) below;
    rejects = flag_of_sink (cases_lt sink sink) (leads_or_not sink);
  }

  -- ---- what it accepts

  abbrev machine : WorkingMachine ℕ
  machine = record { slots = k; automaton = stuck }

  next_below : (state : ℕ) (order : (state < sink) ⊎ (sink ≤ state)) (letter : List Bool) → length letter ≡ k → next_by state order letter < sink + 1
  next_below state (inl below) letter width = number_below automaton sink (automaton.next state letter) (states.steps state letter below width)
  next_below state (inr past) letter width = omega arith

  among : (state : ℕ) → IsReached machine state → Member state (range_with_len 0 (sink + 1))
  among state reached =
      among_numbers (sink + 1) state
      (reached_has machine (λ state. state < sink + 1) (omega (arith, states.start)) (λ state letter width below. next_below state (cases_lt state sink) letter width) state reached)

  as_found : (least : Option Word) → IsLeastOf k (accepts stuck) least
      → MatchOption least ((word : Word) → IsBehaviour k word → accepts stuck word ≢ true) (IsLeastWhere k (λ other. accepts stuck other ≡ true))
  as_found None none = λ word b e. true≢false (sym e ∙ not-true (accepts stuck word) (none word b))
  as_found (Some word) is = is

  least_accepted_word : (least : Option Word) × IsLeastOf k (accepts stuck) least
  least_accepted_word =
      let (list, all) = found_within machine cases_eq (range_with_len 0 (sink + 1)) among in
      let (table, (access, canonical)) = some_canonical machine word_laws cases_eq list all in
      some_least word_laws k (accepts stuck) table access canonical

  some_least_stuck_in : (least : Option Word) × IsLeastStuckOf k (accepts automaton) least
  some_least_stuck_in = elim (cases_Bool (stuck.accepting stuck.start)) [
    | inl begins ↦ (Some [], empty_is_least k sink automaton stuck has begins)
    | inr begins ↦ let (least, is) = least_accepted_word in (least, least_accepted k sink automaton stuck has begins least (as_found least is))
  ]

pub some_least_stuck : SomeLeastStuck
some_least_stuck k L table access canonical =
    let steps = λ (state : ℕ) (letter : List Bool) (below : state < length table) (width : length letter ≡ k). next-below k table canonical.states state letter below in
    let (least, is) = some_least_stuck_in k (length table) (automaton_of table) (record { start = canonical.states.nonempty; steps = steps }) in
    (least, least_stuck_of_same_behaviours k (table_accepts table) L least canonical.exact is)
