-- The automaton of the kept states is a folding of the raw one.
use Rattle.std.proofs.Common.{◌≡◌, ℕ, suc, ◌<◌, Bool, true, false, eqb, List, [], ◌∷◌, ◌++◌, length, get_or, map, drop, AllPairs, Contains, refl, ap, sym, ◌∙◌, subst, subst₂, arith}
use Rattle.std.specs.Prelude.{IsTrue}
use Rattle.std.specs.List.{list_any}
use Rattle.std.proofs.lemmas.Bool.{eq-eqb, eqb-true}
use Rattle.std.proofs.lemmas.List.{length-map, length-drop, get_or-map, get_or-set_same, get_or-set_other, get_or_default}
use Rattle.std.proofs.lemmas.List.Folds.{Any-from_list_any, list_any-from_Any}
use Rattle.dcv_word.specs.Behaviour.{Word, IsBehaviour}
use Rattle.dcv_word.specs.Letter.{bits_of}
use Rattle.dcv_language.specs.Automaton.{Automaton, state_from, state_after}
use Rattle.dcv_language.specs.Least.{IsNoLater}
use Rattle.dcv_language.specs.Table.{Table, IsTable, row_of as row_in_table, is_accepting as accepts_in_table, next_in as next_in_table, automaton_of as table_automaton, leads_to}
use Rattle.dcv_language.specs.Folding.{StartIsShared, StartIsAloneOrShared, IsFolding}
use Rattle.dcv_language.proofs.Behaviours.{Widths, Widths-head, Widths-tail, single, one_letter, goes_on}
use Rattle.dcv_language.proofs.Runs.{state_from-append}
use Rattle.dcv_language.proofs.Words.{Before, no_later, no_later_chain}
use Rattle.dcv_dfa.specs.Raw.{RawValue, IsRaw, is_accepting, next_in, automaton_of}
use Rattle.dcv_dfa.specs.Auto.{table_of_states}
use Rattle.dcv_dfa.proofs.States.{table_has_the_states, table_has_the_flags, table_has_the_steps, states_make_a_table, leads_below}
use Rattle.dcv_refinement.specs.Members.{block_of}
use Rattle.dcv_minimise.specs.Partition.{IsPartition}
use Rattle.dcv_minimise.specs.Classes.{block_at, HaveSameRow, AreNumbers}
use Rattle.dcv_minimise.specs.Folded.{flags_of, IsFolded}
use Rattle.dcv_minimise.proofs.LeastWords.{word_laws, AreReachedBy, least_at, place_of, contained_inside}
use Rattle.dcv_minimise.proofs.Moving.{behind_first}
use Rattle.dcv_minimise.proofs.Numberings.{IsEntered, HasNumber, IsStart, IsNumbering}

-- ---- flags

flag_at : (raw : RawValue) (kept : List ℕ) (alone : Bool) (number : ℕ) → number < length kept → IsEntered alone number
    → get_or (flags_of raw kept alone) number false ≡ is_accepting raw (get_or kept number 0)
flag_at raw kept false number within entered = get_or-map (is_accepting raw) kept number 0 false within
flag_at raw kept true number within entered =
    get_or-set_other (map (is_accepting raw) kept) 0 number false false (λ same. omega arith) ∙ get_or-map (is_accepting raw) kept number 0 false within

first_flag : (raw : RawValue) (kept : List ℕ) → 0 < length kept → get_or (flags_of raw kept true) 0 false ≡ false
first_flag raw kept some = get_or-set_same (map (is_accepting raw) kept) 0 false false (omega (arith, length-map kept (is_accepting raw)))

-- ---- the folding

-- a later number is that of a class
entered_later : (alone : Bool) (number : ℕ) → 0 < number → IsEntered alone number
entered_later true number some = some
entered_later false number some = tt

module _ (raw : RawValue) (is : IsRaw raw) (blocks states : List ℕ) (words : List Word) (reached : AreReachedBy raw.arena.slots (automaton_of raw) states words)
    (partition : IsPartition raw blocks) (kept : List ℕ) (access : List Word) (alone : Bool) (numbering : IsNumbering raw blocks states words kept access alone)
    (numbers : List ℕ) (are_numbers : AreNumbers blocks kept numbers) (new : RawValue) (new_is : IsRaw new) (folded : IsFolded raw kept numbers alone new) where
  abbrev k : ℕ
  k = raw.arena.slots

  abbrev automaton : Automaton ℕ
  automaton = automaton_of raw

  abbrev table : Table
  table = table_of_states new

  abbrev pub is_reached : ℕ → Bool
  is_reached state = list_any (eqb state) states

  abbrev pub number_of : ℕ → ℕ
  number_of state = get_or numbers state 0

  -- ---- states that are reached

  listed : (state : ℕ) → IsTrue (is_reached state) → Contains states state
  listed state t =
      let any = Any-from_list_any (eqb state) states t in
      (any.0, any.2, get_or_default states any.0 state any.1 any.2 ∙ any.3 ∙ sym (eqb-true state any.1 any.4))

  reached_if : (state : ℕ) → Contains states state → IsTrue (is_reached state)
  reached_if state there = list_any-from_Any (eqb state) states (there.0, state, there.1, there.2, eq-eqb state state refl)

  inside : (state : ℕ) → Contains states state → state < length raw.rows
  inside state there = contained_inside raw is states words reached state there

  begins : (letter : List Bool) → length letter ≡ k → Contains states (next_in raw raw.start letter)
  begins letter size = reached.all (letter ∷ []) (single k letter size)

  step : (state : ℕ) (letter : List Bool) → Contains states state → length letter ≡ k → Contains states (next_in raw state letter)
  step state letter there size =
      let least = reached.least there.0 there.1 in
      let word = get_or words there.0 [] in
      let to : state_after automaton word ≡ state = least.member ∙ place_of k automaton states words reached state there in
      subst (Contains states) (state_from-append automaton raw.start word (letter ∷ []) ∙ ap (λ s. next_in raw s letter) to)
      (reached.all (word ++ letter ∷ []) (goes_on k word (letter ∷ []) least.behaviour (one_letter k letter size)))

  -- ---- numbers

  -- the class of a state that is reached
  class_of : (state : ℕ) (there : Contains states state) → HasNumber blocks states words kept access alone there.0
  class_of state there = numbering.each there.0 there.1

  same_block : (state : ℕ) (there : Contains states state) → block_at blocks kept (class_of state there).number ≡ block_of blocks state
  same_block state there = (class_of state there).same ∙ ap (block_of blocks) (place_of k automaton states words reached state there)

  numbered : (state number : ℕ) → state < length raw.rows → number < length kept → block_of blocks state ≡ block_at blocks kept number → number_of state ≡ number
  numbered state number below within same = are_numbers.each state number (omega (arith, partition.each)) within same

  number_is : (state : ℕ) (there : Contains states state) → number_of state ≡ (class_of state there).number
  number_is state there = numbered state (class_of state there).number (inside state there) (class_of state there).within (sym (same_block state there))

  one_number : (first second : ℕ) → Contains states first → second < length raw.rows → block_of blocks first ≡ block_of blocks second → number_of first ≡ number_of second
  one_number first second there below same =
      number_is first there ∙ sym (numbered second (class_of first there).number below (class_of first there).within (sym same ∙ sym (same_block first there)))

  one_block : (first second : ℕ) → Contains states first → Contains states second → number_of first ≡ number_of second → block_of blocks first ≡ block_of blocks second
  one_block first second there other same =
      let number : (class_of first there).number ≡ (class_of second other).number = sym (number_is first there) ∙ same ∙ number_is second other in
      sym (same_block first there) ∙ ap (block_at blocks kept) number ∙ same_block second other

  -- the number of a kept state is its place
  own_number : (number : ℕ) → number < length kept → number_of (get_or kept number 0) ≡ number
  own_number number within = numbered (get_or kept number 0) number (numbering.inside number 0 within) within refl

  -- a kept state that is entered is reached
  kept_listed : (number : ℕ) → number < length kept → IsEntered alone number → Contains states (get_or kept number 0)
  kept_listed number within entered =
      let at = numbering.at number within entered in
      (at.place, at.within, get_or_default states at.place (get_or kept number 0) 0 at.within ∙ at.state_is)

  -- ---- the table

  many : length table ≡ length kept
  many = table_has_the_states new ∙ folded.count

  in_rows : (number : ℕ) → number < length kept → number < length new.rows
  in_rows number within = omega (arith, folded.count)

  next_number : (number : ℕ) (letter : List Bool) → number < length kept → length letter ≡ k → next_in_table table number letter ≡ number_of (next_in raw (get_or kept number 0) letter)
  next_number number letter within size =
      table_has_the_steps new number letter (in_rows number within) (size ∙ sym folded.rows.slots) ∙ folded.rows.values number letter (in_rows number within) size

  flag_is : (number : ℕ) → number < length kept → IsEntered alone number → accepts_in_table table number ≡ is_accepting raw (get_or kept number 0)
  flag_is number within entered =
      table_has_the_flags new number (in_rows number within) ∙ ap (λ flags. get_or flags number false) folded.flags ∙ flag_at raw kept alone number within entered

  -- ---- flags and steps of the states that are reached

  flags : (state : ℕ) (there : Contains states state) → accepts_in_table table (number_of state) ≡ is_accepting raw state
  flags state there =
      let class = class_of state there in
      ap (accepts_in_table table) (number_is state there) ∙ flag_is class.number class.within class.entered
      ∙ partition.flags (get_or kept class.number 0) state (numbering.inside class.number 0 class.within) (inside state there) (same_block state there)

  steps : (state : ℕ) (letter : List Bool) (there : Contains states state) → length letter ≡ k → next_in_table table (number_of state) letter ≡ number_of (next_in raw state letter)
  steps state letter there size =
      let class = class_of state there in
      let one = get_or kept class.number 0 in
      ap (λ n. next_in_table table n letter) (number_is state there) ∙ next_number class.number letter class.within size
      ∙ one_number (next_in raw one letter) (next_in raw state letter)
      (step one letter (kept_listed class.number class.within class.entered) size) (inside (next_in raw state letter) (step state letter there size))
      (partition.steps one state letter (numbering.inside class.number 0 class.within) (inside state there) (same_block state there) size)

  -- the start goes on as the kept state with number 0
  start_row : (alone : Bool) → IsStart raw blocks kept access alone → HaveSameRow raw blocks raw.start (get_or kept 0 0)
  start_row true start = λ letter size. ap (λ s. block_of blocks (next_in raw s letter)) (sym start.is)
  start_row false start = start.same

  start_steps : (letter : List Bool) → length letter ≡ k → next_in_table table 0 letter ≡ number_of (next_in raw raw.start letter)
  start_steps letter size =
      let to = next_in raw (get_or kept 0 0) letter in
      next_number 0 letter numbering.some size
      ∙ sym (one_number (next_in raw raw.start letter) to (begins letter size) (leads_below raw is (get_or kept 0 0) (numbering.inside 0 0 numbering.some) letter size)
      (start_row alone numbering.start letter size))

  -- ---- words

  leads_from : (state : ℕ) (word : Word) → Contains states state → Widths k word → state_from (table_automaton table) (number_of state) word ≡ number_of (state_from automaton state word)
  leads_from state [] there widths = refl
  leads_from state (letter ∷ word) there widths =
      let size = Widths-head k letter word widths in
      ap (λ n. state_from (table_automaton table) n word) (steps state letter there size)
      ∙ leads_from (next_in raw state letter) word (step state letter there size) (Widths-tail k letter word widths)

  leads_by : (word : Word) → IsBehaviour k word → leads_to table word ≡ number_of (state_after automaton word)
  leads_by [] behaves = absurd (omega (arith, behaves.nonempty))
  leads_by (letter ∷ word) behaves =
      let size = Widths-head k letter word behaves.widths in
      ap (λ n. state_from (table_automaton table) n word) (start_steps letter size)
      ∙ leads_from (next_in raw raw.start letter) word (begins letter size) (Widths-tail k letter word behaves.widths)

  module _ (number : ℕ) (within : number < length kept) (entered : IsEntered alone number) where
    behaves_at : IsBehaviour k (get_or access number [])
    behaves_at = (least_at k automaton states words reached (get_or kept number 0) (get_or access number []) (numbering.at number within entered)).behaviour

    raw_leads_at : state_after automaton (get_or access number []) ≡ get_or kept number 0
    raw_leads_at = (least_at k automaton states words reached (get_or kept number 0) (get_or access number []) (numbering.at number within entered)).member

    leads_at : leads_to table (get_or access number []) ≡ number
    leads_at = leads_by (get_or access number []) behaves_at ∙ ap number_of raw_leads_at ∙ own_number number within

  -- the class of a state has a word no later than any that leads to the state
  early : (word : Word) → IsBehaviour k word → IsNoLater (get_or access (number_of (state_after automaton word)) []) word
  early word behaves =
      let state = state_after automaton word in
      let there = reached.all word behaves in
      let class = class_of state there in
      let least = reached.least there.0 there.1 in
      let own = get_or words there.0 [] in
      let first : IsNoLater own word = no_later word_laws own word (least.least word behaves (sym (place_of k automaton states words reached state there))) in
      subst (λ n. IsNoLater (get_or access n []) word) (sym (number_is state there))
      (no_later_chain word_laws (get_or access class.number []) own word class.no_later first)

  begins_early : (letter : List Bool) → length letter ≡ k → IsNoLater (get_or access (next_in_table table 0 letter) []) (letter ∷ [])
  begins_early letter size = subst (λ n. IsNoLater (get_or access n []) (letter ∷ [])) (sym (start_steps letter size)) (early (letter ∷ []) (single k letter size))

  goes_on_early : (number : ℕ) (letter : List Bool) → 0 < number → number < length table → length letter ≡ k
      → IsNoLater (get_or access (next_in_table table number letter) []) (get_or access number [] ++ letter ∷ [])
  goes_on_early number letter some below size =
      let within : number < length kept = omega (arith, many) in
      let entered = entered_later alone number some in
      let word = get_or access number [] in
      let to : state_after automaton (word ++ letter ∷ []) ≡ next_in raw (get_or kept number 0) letter =
      state_from-append automaton raw.start word (letter ∷ []) ∙ ap (λ s. next_in raw s letter) (raw_leads_at number within entered) in
      subst (λ n. IsNoLater (get_or access n []) (word ++ letter ∷ [])) (ap number_of to ∙ sym (next_number number letter within size))
      (early (word ++ letter ∷ []) (goes_on k word (letter ∷ []) (behaves_at number within entered) (one_letter k letter size)))

  words_in_order : AllPairs Before (drop 1 access)
  words_in_order i j d less below =
      let inside : suc j < length kept = omega (arith, length-drop 1 access, numbering.beside) in
      let first : suc i < length access = omega (arith, numbering.beside) in
      let second : suc j < length access = omega (arith, numbering.beside) in
      subst₂ Before
      (get_or_default access (suc i) [] d first ∙ sym (behind_first access i d))
      (get_or_default access (suc j) [] d second ∙ sym (behind_first access j d))
      (numbering.in_order (suc i) (suc j) (omega arith) (omega arith) inside)

  -- ---- the start

  -- states with one row in the table have one row in blocks
  same_rows : (number : ℕ) → number < length kept → IsEntered alone number → row_in_table table number ≡ row_in_table table 0 → HaveSameRow raw blocks raw.start (get_or kept number 0)
  same_rows number within entered same letter size =
      sym (one_block (next_in raw (get_or kept number 0) letter) (next_in raw raw.start letter)
      (step (get_or kept number 0) letter (kept_listed number within entered) size) (begins letter size)
      (sym (next_number number letter within size) ∙ ap (λ row. get_or row (bits_of letter) 0) same ∙ start_steps letter size))

  start_by : (alone_is : Bool) → alone_is ≡ alone → IsStart raw blocks kept access alone_is → StartIsAloneOrShared k table access is_reached number_of (get_or access 0 [])
  start_by true e start =
      subst (StartIsAloneOrShared k table access is_reached number_of) (sym start.word)
      (record {
        never_entered = λ state t zero_is.
            let there = listed state t in
            let class = class_of state there in
            let some : 0 < class.number = subst (λ b. IsEntered b class.number) (sym e) class.entered in
            omega (arith, number_is state there, zero_is, some);
        rejects = table_has_the_flags new 0 (in_rows 0 numbering.some) ∙ ap (λ flags. get_or flags 0 false) folded.flags
            ∙ ap (λ b. get_or (flags_of raw kept b) 0 false) (sym e) ∙ first_flag raw kept numbering.some;
        other_rows = λ number some below same.
            let within : number < length kept = omega (arith, many) in
            start.other_rows number some within (same_rows number within (entered_later alone number some) same);
      })
  start_by false e start = shared_by (get_or access 0 []) (behaves_at 0 numbering.some entered).nonempty shared
    where
      entered : IsEntered alone 0
      entered = subst (λ b. IsEntered b 0) e tt

      shared : StartIsShared k table access
      shared = record {
        behaves = behaves_at 0 numbering.some entered;
        leads = leads_at 0 numbering.some entered;
        other_rows = λ number some below before same.
            let within : number < length kept = omega (arith, many) in
            start.other_rows number some within before (same_rows number within (entered_later alone number some) same);
      }

      shared_by : (word : Word) → 0 < length word → StartIsShared k table access → StartIsAloneOrShared k table access is_reached number_of word
      shared_by [] some start = absurd (omega arith)
      shared_by (letter ∷ letters) some start = start

  -- the access word of a start that shares a class is not empty
  pub first_word_some : alone ≡ false → 0 < length (get_or access 0 [])
  first_word_some e = (behaves_at 0 numbering.some (subst (λ b. IsEntered b 0) (sym e) tt)).nonempty

  -- ---- all of it

  pub is_folding : IsFolding k automaton is_reached number_of table access
  is_folding = record {
    states = subst (λ slots. IsTable slots table) folded.rows.slots (states_make_a_table new new_is);
    words = numbering.beside ∙ sym many;
    begins = λ letter size. reached_if (next_in raw raw.start letter) (begins letter size);
    goes_on = λ state letter t size. reached_if (next_in raw state letter) (step state letter (listed state t) size);
    flags = λ state t. flags state (listed state t);
    steps = λ state letter t size. steps state letter (listed state t) size;
    start_steps = start_steps;
    apart = λ first second t u differ.
        let one = listed first t in
        let other = listed second u in
        partition.apart first second (inside first one) (inside second other) (λ same. differ (one_number first second one (inside second other) same));
    behaves = λ state some below. let within : state < length kept = omega (arith, many) in behaves_at state within (entered_later alone state some);
    leads = λ state some below. let within : state < length kept = omega (arith, many) in leads_at state within (entered_later alone state some);
    begins_early = begins_early;
    goes_on_early = goes_on_early;
    in_order = words_in_order;
    start = start_by alone refl numbering.start;
  }
