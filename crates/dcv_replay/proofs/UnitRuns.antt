-- A replay of a unit follows it.
--     Runs at store      the store has the numbers of the statics, and what the last step returned
use Rattle.std.proofs.Common.{◌≡◌, ◌↔◌, ℕ, ◌+◌, ◌-◌, ◌<◌, ◌≤◌, ◌==◌, Bool, true, false, not, cond, nat_eq, IsTrue, List, [], ◌∷◌}
use Rattle.std.proofs.Common.{◌++◌, length, map, fold, take, drop, get_or, set, inl, inr, refl, sym, ap, subst, ◌∙◌, arith, append_assoc, length-append}
use Rattle.std.specs.Prelude.{bytes_eq}
use Rattle.std.specs.List.{position_or_len, AllByRecursion}
use Rattle.std.proofs.lemmas.List.{get_or-set_other, get_or-set_same, length-set, get_or_append_left, get_or-append-add, get_or-map}
use Rattle.std.proofs.lemmas.List.{length-map, get_or-take, get_or-drop, length-take, length-drop, ext_get_or}
use Rattle.std.proofs.lemmas.List.Sums.{fold-append}
use Rattle.std.proofs.lemmas.List.Elements.{recursion_from_All}
use Rattle.std.proofs.lemmas.Bool.{cases_lt}
use Rattle.dcv_word.specs.Behaviour.{Word, IsBehaviour}
use Rattle.dcv_language.specs.Automaton.{state_from}
use Rattle.dcv_c.specs.declared.unit.Statement.{Statement}
use Rattle.dcv_c.specs.declared.unit.Returned.{Returned}
use Rattle.dcv_c.specs.Tree.{CUnit}
use Rattle.dcv_c.specs.Meaning.{Numbers, Store, UnitState, stepped, numbers_before, truth_number, executed, returned_number, automaton_of_unit, unit_accepts}
use Rattle.dcv_c.specs.Meaning as meaning
use Rattle.dcv_c.specs.Laws.{NoLeftOverIsRead}
use Rattle.dcv_c.specs.Rules.{IsWellNamed}
use Rattle.dcv_c.specs.Seen.{names_of, seen_statement, seen_returned}
use Rattle.dcv_observer.proofs.Naming.{Name}
use Rattle.dcv_observer.specs.Naming.{AreDistinct}
use Rattle.dcv_replay.specs.Program.{Program, first_name, after_select, with_letter, after_letter, after_word, rest_of, Selects}
use Rattle.dcv_replay.specs.Observer.{C, Follows}
use Rattle.dcv_replay.specs.Selecting.{slot_of}
use Rattle.dcv_replay.specs.OfUnit.{statement_select, returned_selects, IsPlacedStatement, IsPlacedReturned}
use Rattle.dcv_replay.proofs.Mirrors.{IsApart, Mirrors}
use Rattle.dcv_replay.proofs.NamePlaces.{among_at, apart_places, position_at}
use Rattle.dcv_replay.proofs.Letters.{length-with_letter, letter_elsewhere, letter_there}
use Rattle.dcv_replay.proofs.UnitSteps.{everything, statements_mirror, returned_is}
use Rattle.dcv_replay.proofs.UnitNames.{first_apart, first_distinct, all_distinct}

truth_is_one : (truth : Bool) → (cond truth 1 0 == 1) ≡ truth
truth_is_one true = refl
truth_is_one false = refl

-- a store after the constants, of which the first numbers are these
pub first_numbers : (count : ℕ) (store numbers : List ℕ) → length numbers ≡ count → first_name + count ≤ length store
    → ((place : ℕ) → place < count → get_or store (slot_of place) 0 ≡ get_or numbers place 0) → take count (drop first_name store) ≡ numbers
first_numbers count store numbers size long each =
    ext_get_or 0 (take count (drop first_name store)) numbers
    (omega (arith, length-take count (drop first_name store), length-drop first_name store, size, long))
    (λ place below.
    let within : place < count = omega (arith, below, length-take count (drop first_name store)) in
    get_or-take count (drop first_name store) place 0 within ∙ get_or-drop first_name store place 0 ∙ each place within)

module _ (unit : CUnit) (well : IsWellNamed unit) (law : NoLeftOverIsRead) (code : List Statement) (returned : Returned)
    (same : map (seen_statement (names_of unit)) code ≡ unit.statements) (same_returned : seen_returned (names_of unit) returned ≡ unit.returned)
    (placed : AllByRecursion (IsPlacedStatement (length (names_of unit))) code) (placed_returned : IsPlacedReturned (length (names_of unit)) returned) where
  abbrev first : List Name
  first = unit.statics ++ unit.parameters

  whole : names_of unit ≡ (unit.statics ++ unit.parameters) ++ unit.locals
  whole = sym (append_assoc unit.statics unit.parameters unit.locals)

  distinct : AreDistinct (names_of unit)
  distinct = subst AreDistinct (sym whole) (all_distinct unit well)

  pub apart : IsApart (names_of unit)
  apart = apart_places (names_of unit) distinct

  abbrev pub unit_program : Program
  unit_program = record { width = length unit.parameters; steps = Selects (slot_of (length unit.statics)) (map statement_select code ++ returned_selects (slot_of (length (names_of unit))) returned) (slot_of (length (names_of unit))) }

  pub record Runs (at : UnitState) (store : List ℕ) : Type 0 where
    pub long : first_name + length (names_of unit) < length store
    pub literals : (number : ℕ) → number < first_name → get_or store number 0 ≡ number
    pub count : length at.store ≡ length unit.statics
    pub statics : (place : ℕ) → place < length unit.statics → get_or store (slot_of place) 0 ≡ get_or at.store place 0
    pub answer : (get_or store (slot_of (length (names_of unit))) 0 == 1) ≡ not (nat_eq at.returned 0)

  pub total : length (names_of unit) ≡ length unit.statics + length unit.parameters + length unit.locals
  total = ap length whole ∙ length-append (unit.statics ++ unit.parameters) unit.locals ∙ ap (λ (n : ℕ). n + length unit.locals) (length-append unit.statics unit.parameters)

  module _ (at : UnitState) (store : List ℕ) (runs : Runs at store) (letter : List Bool) (wide : length letter ≡ length unit.parameters) where
    abbrev ready : List ℕ
    ready = with_letter (slot_of (length unit.statics)) letter store

    -- what was left in the slots
    left : Numbers
    left name = get_or (with_letter (slot_of (length unit.statics)) letter store) (slot_of (position_or_len (bytes_eq name) (names_of unit))) 0

    abbrev values : List ℕ
    values = at.store ++ map truth_number letter

    ready_long : length (with_letter (slot_of (length unit.statics)) letter store) ≡ length store
    ready_long = length-with_letter (slot_of (length unit.statics)) letter store

    -- statics keep their numbers, and parameters have the letter's values
    first_ready : (place : ℕ) → place < length (unit.statics ++ unit.parameters)
        → get_or (with_letter (slot_of (length unit.statics)) letter store) (slot_of place) 0 ≡ get_or (at.store ++ map truth_number letter) place 0
    first_ready place below = elim (cases_lt place (length unit.statics)) [
      | inl static ↦
          letter_elsewhere (slot_of (length unit.statics)) letter store (slot_of place) (inl (omega (arith, static)))
          ∙ runs.statics place static
          ∙ sym (get_or_append_left at.store (map truth_number letter) 0 place (omega (arith, static, runs.count)))
      | inr behind ↦ parameter_ready (place - length unit.statics) (omega (arith, below, length-append unit.statics unit.parameters, wide, behind)) place (omega (arith, behind))
    ] where
      parameter_ready : (k : ℕ) → k < length letter → (place : ℕ) → place ≡ length unit.statics + k
          → get_or (with_letter (slot_of (length unit.statics)) letter store) (slot_of place) 0 ≡ get_or (at.store ++ map truth_number letter) place 0
      parameter_ready k within place is =
          (let e : slot_of place ≡ slot_of (length unit.statics) + k = omega (arith, is) in
          ap (λ (n : ℕ). get_or (with_letter (slot_of (length unit.statics)) letter store) n 0) e)
          ∙ letter_there (slot_of (length unit.statics)) letter store (omega (arith, runs.long, total, wide)) k within
          ∙ sym (get_or-map truth_number letter k false 0 within)
          ∙ sym (get_or-append-add at.store (map truth_number letter) k 0)
          ∙ (let e : length at.store + k ≡ place = omega (arith, is, runs.count) in ap (λ (n : ℕ). get_or (at.store ++ map truth_number letter) n 0) e)

    first_number : (place : ℕ) → place < length (unit.statics ++ unit.parameters)
        → numbers_before unit left at.store letter (get_or (unit.statics ++ unit.parameters) place []) ≡ get_or (at.store ++ map truth_number letter) place 0
    first_number place below =
        ap (λ (b : Bool). cond b (left (get_or (unit.statics ++ unit.parameters) place []))
        (get_or (at.store ++ map truth_number letter) (position_or_len (bytes_eq (get_or (unit.statics ++ unit.parameters) place [])) (unit.statics ++ unit.parameters)) 0))
        (first_apart unit well (get_or (unit.statics ++ unit.parameters) place []) (among_at (unit.statics ++ unit.parameters) place below))
        ∙ ap (λ (n : ℕ). get_or (at.store ++ map truth_number letter) n 0) (position_at (unit.statics ++ unit.parameters) (first_distinct unit well) place below)

    local_number : (k : ℕ) → k < length unit.locals → numbers_before unit left at.store letter (get_or unit.locals k []) ≡ left (get_or unit.locals k [])
    local_number k below =
        ap (λ (b : Bool). cond b (left (get_or unit.locals k []))
        (get_or (at.store ++ map truth_number letter) (position_or_len (bytes_eq (get_or unit.locals k [])) (unit.statics ++ unit.parameters)) 0))
        (among_at unit.locals k below)

    begins : Mirrors (names_of unit) everything (numbers_before unit left at.store letter) (with_letter (slot_of (length unit.statics)) letter store)
    unfolding left
    begins = record {
      long = omega (arith, ready_long, runs.long);
      literals = λ number small. letter_elsewhere (slot_of (length unit.statics)) letter store number (inl (omega (arith, small))) ∙ runs.literals number small;
      numbers = λ place below there. elim (cases_lt place (length (unit.statics ++ unit.parameters))) [
        | inl early ↦
            first_ready place early ∙ sym (first_number place early)
            ∙ ap (numbers_before unit left at.store letter) (sym (ap (λ (names : List Name). get_or names place []) whole
            ∙ get_or_append_left (unit.statics ++ unit.parameters) unit.locals [] place early))
        | inr late ↦ local_begins place below (place - length (unit.statics ++ unit.parameters)) (omega (arith, late))
      ];
    } where
      local_begins : (place : ℕ) → place < length (names_of unit) → (k : ℕ) → place ≡ length (unit.statics ++ unit.parameters) + k
          → get_or (with_letter (slot_of (length unit.statics)) letter store) (slot_of place) 0 ≡ numbers_before unit left at.store letter (get_or (names_of unit) place [])
      local_begins place below k is =
          let name_is : get_or (names_of unit) place [] ≡ get_or unit.locals k [] =
          ap (λ (names : List Name). get_or names place []) whole ∙ ap (λ (n : ℕ). get_or ((unit.statics ++ unit.parameters) ++ unit.locals) n []) is
          ∙ get_or-append-add (unit.statics ++ unit.parameters) unit.locals k [] in
          let within : k < length unit.locals = omega (arith, is, below, total, length-append unit.statics unit.parameters) in
          ap (λ (n : ℕ). get_or (with_letter (slot_of (length unit.statics)) letter store) (slot_of n) 0) (sym (position_at (names_of unit) distinct place below))
          ∙ ap left name_is ∙ sym (local_number k within) ∙ ap (numbers_before unit left at.store letter) (sym name_is)

    after : Numbers
    after = fold executed (numbers_before unit left at.store letter) (map (seen_statement (names_of unit)) code)

    middle : List ℕ
    middle = fold after_select (with_letter (slot_of (length unit.statics)) letter store) (map statement_select code)

    done : Mirrors (names_of unit) everything after middle
    unfolding after middle
    done = statements_mirror (names_of unit) apart code begins placed

    answer_number : ℕ
    answer_number = cond (not (nat_eq (returned_number after (seen_returned (names_of unit) returned)) 0)) 1 0

    end_is : after_letter unit_program store letter ≡ set middle (slot_of (length (names_of unit))) answer_number
    unfolding middle answer_number
    end_is =
        fold-append after_select (with_letter (slot_of (length unit.statics)) letter store) (map statement_select code) (returned_selects (slot_of (length (names_of unit))) returned)
        ∙ returned_is (names_of unit) apart done returned placed_returned

    ended : Runs (record { store = map after unit.statics; returned = returned_number after (seen_returned (names_of unit) returned) })
        (set middle (slot_of (length (names_of unit))) answer_number)
    unfolding answer_number
    ended = record {
      long = omega (arith, length-set middle (slot_of (length (names_of unit))) answer_number, done.long);
      literals = λ number small.
          get_or-set_other middle (slot_of (length (names_of unit))) number answer_number 0 (λ is. omega (arith, is, small)) ∙ done.literals number small;
      count = length-map unit.statics after;
      statics = λ place below.
          get_or-set_other middle (slot_of (length (names_of unit))) (slot_of place) answer_number 0 (λ is. omega (arith, is, below, total))
          ∙ done.numbers place (omega (arith, below, total)) refl
          ∙ ap after (get_or_append_left unit.statics (unit.parameters ++ unit.locals) [] place below)
          ∙ sym (get_or-map after unit.statics place [] 0 below);
      answer =
          ap (λ (n : ℕ). n == 1) (get_or-set_same middle (slot_of (length (names_of unit))) answer_number 0 (omega (arith, done.long)))
          ∙ truth_is_one (not (nat_eq (returned_number after (seen_returned (names_of unit) returned)) 0));
    }

    step_runs : Runs (stepped unit meaning.zeros at.store letter) (after_letter unit_program store letter)
    unfolding after
    step_runs =
        subst (λ (state : UnitState). Runs state (after_letter unit_program store letter)) (states ∙ law unit well left meaning.zeros at.store letter)
        (subst (λ (end : List ℕ). Runs (record { store = map after unit.statics; returned = returned_number after (seen_returned (names_of unit) returned) }) end) (sym end_is) ended)
      where
        -- by the unit's own statements
        states : record { store = map after unit.statics; returned = returned_number after (seen_returned (names_of unit) returned) } ≡ stepped unit left at.store letter
        states i =
            let now : Numbers = fold executed (numbers_before unit left at.store letter) (same i) in
            record { store = map now unit.statics; returned = returned_number now (same_returned i) }

  pub word_runs : (word : Word) (at : UnitState) (store : List ℕ) → Runs at store → AllByRecursion (λ (letter : List Bool). length letter ≡ length unit.parameters) word
      → Runs (state_from (automaton_of_unit unit) at word) (after_word unit_program store word)
  word_runs [] at store runs wide = runs
  word_runs (letter ∷ word) at store runs (fits, wide) =
      word_runs word (stepped unit meaning.zeros at.store letter) (after_letter unit_program store letter) (step_runs at store runs letter fits) wide

  pub follows_unit : (store : List ℕ) → Runs (automaton_of_unit unit).start store → Follows (C unit) [] (record { program = unit_program; store = store })
  follows_unit store runs = record {
    width = refl;
    store = λ more wide.
        let there = word_runs more (automaton_of_unit unit).start store runs (recursion_from_All (λ (letter : List Bool). length letter ≡ length unit.parameters) more wide) in
        first_numbers (length unit.statics) (after_word unit_program store more) (state_from (automaton_of_unit unit) (automaton_of_unit unit).start more).store
        there.count (omega (arith, there.long, total)) there.statics;
    answers = λ more behaviour. accepted more behaviour;
  } where
    accepted : (more : Word) → IsBehaviour (length unit.parameters) more
        → IsTrue (rest_of (record { program = unit_program; store = store }) more) ↔ IsTrue (unit_accepts unit more)
    accepted [] behaviour = absurd (omega (arith, behaviour.nonempty))
    accepted (letter ∷ word) behaviour =
        let wide = recursion_from_All (λ (letter : List Bool). length letter ≡ length unit.parameters) (letter ∷ word) behaviour.widths in
        let is = (word_runs (letter ∷ word) (automaton_of_unit unit).start store runs wide).answer in
        ((λ (yes : IsTrue _). subst IsTrue is yes), (λ (yes : IsTrue _). subst IsTrue (sym is) yes))
