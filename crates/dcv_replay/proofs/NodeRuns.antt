-- A replay of a node follows it.
--     Runs before store      the store has what the equations take from the instant before
use Rattle.std.proofs.Common.{◌≡◌, ◌↔◌, ℕ, zero, suc, ◌+◌, ◌-◌, ◌<◌, ◌≤◌, ◌==◌, Bool, true, false, not, cond, IsTrue, List, []}
use Rattle.std.proofs.Common.{◌∷◌, length, map, fold, take, drop, get_or, Option, Some, None, inl, inr, refl, sym, ap, subst, ◌∙◌, arith, length-append}
use Rattle.std.specs.Prelude.{bytes_eq}
use Rattle.std.specs.List.{AllByRecursion, flat_map}
use Rattle.std.proofs.lemmas.List.{get_or_append_left, get_or-append-add, get_or-map, length-map}
use Rattle.std.proofs.lemmas.List.Sums.{fold-append}
use Rattle.std.proofs.lemmas.List.Elements.{recursion_from_All}
use Rattle.std.proofs.lemmas.Bool.{cases_Bool, cases_lt, both_ways}
use Rattle.std.proofs.lemmas.Slice.Eq.{bytes_eq-Decides}
use Rattle.dcv_word.specs.Behaviour.{Word, IsBehaviour}
use Rattle.dcv_observer.specs.Naming.{is_among, AreDistinct}
use Rattle.dcv_observer.proofs.Naming.{distinct_apart, Name}
use Rattle.dcv_lustre.specs.declared.node.Equation.{Equation}
use Rattle.dcv_lustre.specs.Tree.{Node, Value, Truth, Equation as PlainEquation}
use Rattle.dcv_lustre.specs.Meaning.{Values, Valuation, ok, local_names, names_of, has_only_tick, width_of, inputs_at, value_in, is_true, right_value, IsInstant, IsTraceFrom, IsTrace, is_ok, Accepts}
use Rattle.dcv_lustre.specs.Rules.{lefts_of, IsWellNamed}
use Rattle.dcv_lustre.specs.Laws.{TraceExists}
use Rattle.dcv_lustre.specs.Seen.{seen_equation}
use Rattle.dcv_lustre.proofs.Runs.{IsOnNoLeft, IsInOrder}
use Rattle.dcv_lustre.proofs.OneTrace.{StandsInOrder}
use Rattle.dcv_lustre.proofs.InOrder.{stands_in_order}
use Rattle.dcv_replay.specs.Program.{Program, first_name, after_select, with_letter, after_letter, after_word, is_accepting, rest_of, Selects}
use Rattle.dcv_replay.specs.Observer.{Lustre, Follows, value_number, AreOfLast}
use Rattle.dcv_replay.specs.Selecting.{slot_of}
use Rattle.dcv_replay.specs.OfNode.{equation_selects, latch_selects, node_selects, after_cell, IsPlacedEquation}
use Rattle.dcv_replay.proofs.Mirrors.{IsApart, Mirrors}
use Rattle.dcv_replay.proofs.NamePlaces.{among_at, apart_places, position_at}
use Rattle.dcv_replay.proofs.Letters.{length-with_letter, letter_elsewhere, letter_there}
use Rattle.dcv_replay.proofs.UnitRuns.{first_numbers}
use Rattle.dcv_replay.proofs.NodeSteps.{truth_is, length-after}
use Rattle.dcv_replay.proofs.NodeCells.{Cells, cells_kept, cells_set, cell_number, known_but, latches_are, equations_run}

itself : (name : Name) → bytes_eq name name ≡ true
itself name = (bytes_eq-Decides name name).1 refl

-- ---- the inputs of an instant

-- what the slots of inputs have once a letter is put in
inputs_ready : (inputs : List Name) (letter : List Bool) (store : List ℕ) → length letter ≡ cond (has_only_tick inputs) 0 (length inputs) → first_name + length inputs ≤ length store
    → (has_only_tick inputs ≡ true → get_or store (slot_of 0) 0 ≡ 0) → (place : ℕ) → place < length inputs
    → get_or (with_letter (slot_of 0) letter store) (slot_of place) 0 ≡ cond (get_or (cond (has_only_tick inputs) (false ∷ letter) letter) place false) 1 0
inputs_ready inputs letter store wide room tick place below = by_cases (has_only_tick inputs) refl wide where
  tick_alone : (inputs : List Name) → has_only_tick inputs ≡ true → length inputs ≡ 1
  tick_alone [] only = absurd (both_ways false refl only)
  tick_alone (input ∷ []) only = refl
  tick_alone (input ∷ other ∷ inputs) only = absurd (both_ways false refl only)

  by_cases : (only : Bool) → has_only_tick inputs ≡ only → length letter ≡ cond only 0 (length inputs)
      → get_or (with_letter (slot_of 0) letter store) (slot_of place) 0 ≡ cond (get_or (cond only (false ∷ letter) letter) place false) 1 0
  by_cases true is size = at_tick letter place size (omega (arith, below, tick_alone inputs is)) (tick is) where
    at_tick : (letter : List Bool) (place : ℕ) → length letter ≡ 0 → place ≡ 0 → get_or store (slot_of 0) 0 ≡ 0
        → get_or (with_letter (slot_of 0) letter store) (slot_of place) 0 ≡ cond (get_or (false ∷ letter) place false) 1 0
    at_tick [] zero size first none = none
    at_tick [] (suc place) size first none = absurd (omega (arith, first))
    at_tick (value ∷ letter) place size first none = absurd (omega (arith, size))
  by_cases false is size =
      (let e : slot_of place ≡ slot_of 0 + place = omega arith in ap (λ (n : ℕ). get_or (with_letter (slot_of 0) letter store) n 0) e)
      ∙ letter_there (slot_of 0) letter store (omega (arith, room, size)) place (omega (arith, below, size))

truth_number : (truth : Bool) → cond truth 1 0 ≡ value_number (Truth truth)
truth_number true = refl
truth_number false = refl

module _ (node : Node) (well : IsWellNamed node) (exists : TraceExists) (equations : List Equation) (same : map (seen_equation (names_of node)) equations ≡ node.equations)
    (placed : AllByRecursion (IsPlacedEquation (length (names_of node))) equations) where
  stands : StandsInOrder node
  stands = stands_in_order node well

  distinct : AreDistinct (names_of node)
  distinct = stands.distinct

  pub apart : IsApart (names_of node)
  apart = apart_places (names_of node) distinct

  pub order : IsInOrder (map (seen_equation (names_of node)) equations)
  order = subst IsInOrder (sym same) stands.order

  pub count_of : length (names_of node) ≡ length node.inputs + suc (length (local_names node))
  count_of = length-append node.inputs (ok ∷ local_names node)

  abbrev pub node_program : Program
  node_program = record { width = width_of node; steps = Selects (slot_of 0) (node_selects (length (names_of node)) equations) (slot_of (length node.inputs)) }

  pub record Runs (before : Option Values) (store : List ℕ) : Type 0 where
    pub long : first_name + (length (names_of node) + length (names_of node)) < length store
    pub literals : (number : ℕ) → number < first_name → get_or store number 0 ≡ number
    pub tick : has_only_tick node.inputs ≡ true → get_or store (slot_of 0) 0 ≡ 0
    pub cells : Cells (names_of node) apart before store equations

  -- a name on no left side is an input
  free_is_input : (place : ℕ) → place < length (names_of node) → is_among (lefts_of (map (seen_equation (names_of node)) equations)) (get_or (names_of node) place []) ≡ false
      → place < length node.inputs
  free_is_input place below free = elim (cases_lt place (length node.inputs)) [
    | inl input ↦ input
    | inr behind ↦ absurd (elim (cases_Bool (is_among node.inputs (get_or (names_of node) place []))) [
      | inl input ↦
          both_ways (is_among node.inputs (get_or (names_of node) place []))
          (distinct_apart node.inputs (ok ∷ local_names node) stands.distinct (get_or (names_of node) place []) (late place (place - length node.inputs) (omega (arith, behind)) below)) input
      | inr other ↦
          both_ways (is_among (names_of node) (get_or (names_of node) place []))
          (stands.others_set (get_or (names_of node) place []) (subst (λ (es : List PlainEquation). IsOnNoLeft es (get_or (names_of node) place [])) same free) other)
          (among_at (names_of node) place below)
    ])
  ] where
    late : (place k : ℕ) → place ≡ length node.inputs + k → place < length (names_of node) → is_among (ok ∷ local_names node) (get_or (names_of node) place []) ≡ true
    late place k is below =
        ap (is_among (ok ∷ local_names node)) (ap (λ (n : ℕ). get_or (names_of node) n []) is ∙ get_or-append-add node.inputs (ok ∷ local_names node) k [])
        ∙ among_at (ok ∷ local_names node) k (omega (arith, is, below, count_of))

  module _ (before : Option Values) (now : Valuation) (letter : List Bool) (instant : IsInstant node before now letter) (wide : length letter ≡ width_of node) (store : List ℕ)
      (runs : Runs before store) where
    abbrev values : Values
    values = value_in node now

    -- an input has the letter's value
    input_value : (place : ℕ) → place < length node.inputs → value_in node now (get_or (names_of node) place []) ≡ Truth (get_or (inputs_at node letter) place false)
    input_value place below =
        ap (value_in node now) (get_or_append_left node.inputs (ok ∷ local_names node) [] place below)
        ∙ sym (get_or-map (value_in node now) node.inputs place [] (Truth false) below)
        ∙ ap (λ (vs : List Value). get_or vs place (Truth false)) instant.inputs
        ∙ get_or-map Truth (inputs_at node letter) place false (Truth false) (omega (arith, below, inputs_long))
      where
        inputs_long : length (inputs_at node letter) ≡ length node.inputs
        inputs_long = sym (length-map (inputs_at node letter) Truth) ∙ ap length (sym instant.inputs) ∙ length-map node.inputs (value_in node now)

    begins : Mirrors (names_of node) (known_but (map (seen_equation (names_of node)) equations)) (λ name. value_number (value_in node now name)) (with_letter (slot_of 0) letter store)
    begins = record {
      long = omega (arith, length-with_letter (slot_of 0) letter store, runs.long);
      literals = λ number small. letter_elsewhere (slot_of 0) letter store number (inl (omega (arith, small))) ∙ runs.literals number small;
      numbers = λ place below there.
          let input = free_is_input place below (not_true (is_among (lefts_of (map (seen_equation (names_of node)) equations)) (get_or (names_of node) place [])) there) in
          inputs_ready node.inputs letter store wide (omega (arith, runs.long, count_of)) runs.tick place input
          ∙ truth_number (get_or (inputs_at node letter) place false) ∙ ap value_number (sym (input_value place input));
    } where
      not_true : (b : Bool) → not b ≡ true → b ≡ false
      not_true true there = sym there
      not_true false there = refl

    hold : AllByRecursion (λ (equation : PlainEquation). value_in node now equation.left ≡ right_value before (value_in node now) equation.right) (map (seen_equation (names_of node)) equations)
    hold = subst (AllByRecursion (λ (equation : PlainEquation). value_in node now equation.left ≡ right_value before (value_in node now) equation.right)) (sym same)
        (recursion_from_All (λ (equation : PlainEquation). value_in node now equation.left ≡ right_value before (value_in node now) equation.right) node.equations instant.equations)

    letter_high : (slot : ℕ) → first_name + length (names_of node) ≤ slot → get_or (with_letter (slot_of 0) letter store) slot 0 ≡ get_or store slot 0
    letter_high slot high = letter_elsewhere (slot_of 0) letter store slot (inr (omega (arith, high, count_of, wide, short node.inputs)))
      where
        short : (inputs : List Name) → cond (has_only_tick inputs) 0 (length inputs) ≤ length inputs
        short inputs = by_cases (has_only_tick inputs) where
          by_cases : (only : Bool) → cond only 0 (length inputs) ≤ length inputs
          by_cases true = omega arith
          by_cases false = omega arith

    middle : List ℕ
    middle = fold after_select (with_letter (slot_of 0) letter store) (flat_map (equation_selects (length (names_of node))) equations)

    pub record Stepped (end : List ℕ) : Type 0 where
      pub next : Runs (Some (value_in node now)) end
      pub mirrors : Mirrors (names_of node) (known_but []) (λ name. value_number (value_in node now name)) end

    stepped : Stepped (after_letter node_program store letter)
    stepped =
        let cells = cells_kept (names_of node) apart before store (with_letter (slot_of 0) letter store) equations letter_high runs.cells in
        let ran = equations_run (names_of node) apart (value_in node now) before equations order placed hold cells begins in
        let ran_long : length (fold after_select (with_letter (slot_of 0) letter store) (flat_map (equation_selects (length (names_of node))) equations)) ≡ length store =
        length-after (flat_map (equation_selects (length (names_of node))) equations) (with_letter (slot_of 0) letter store) ∙ length-with_letter (slot_of 0) letter store in
        let set = cells_set (names_of node) apart (Some (value_in node now)) equations order placed
        (fold after_select (with_letter (slot_of 0) letter store) (flat_map (equation_selects (length (names_of node))) equations)) (omega (arith, ran_long, runs.long)) in
        let end_is : after_letter node_program store letter
        ≡ fold (after_cell (cell_number (names_of node) (Some (value_in node now))) (length (names_of node)))
        (fold after_select (with_letter (slot_of 0) letter store) (flat_map (equation_selects (length (names_of node))) equations)) equations =
        fold-append after_select (with_letter (slot_of 0) letter store) (flat_map (equation_selects (length (names_of node))) equations) (flat_map (latch_selects (length (names_of node))) equations)
        ∙ latches_are (names_of node) apart (value_in node now) equations placed ran.mirrors in
        let mirrors : Mirrors (names_of node) (known_but []) (λ name. value_number (value_in node now name))
        (fold (after_cell (cell_number (names_of node) (Some (value_in node now))) (length (names_of node)))
        (fold after_select (with_letter (slot_of 0) letter store) (flat_map (equation_selects (length (names_of node))) equations)) equations) =
        record {
          long = omega (arith, set.long, ran.mirrors.long);
          literals = λ number small. set.low number (omega (arith, small)) ∙ ran.mirrors.literals number small;
          numbers = λ place below there. set.low (slot_of place) (omega (arith, below)) ∙ ran.mirrors.numbers place below there;
        } in
        subst Stepped (sym end_is) (record {
          next = record {
            long = omega (arith, set.long, ran_long, runs.long);
            literals = mirrors.literals;
            tick = λ only. mirrors.numbers 0 (omega (arith, count_of)) refl ∙ ap value_number (tick_value only);
            cells = set.cells;
          };
          mirrors = mirrors;
        })
      where
        tick_value : has_only_tick node.inputs ≡ true → value_in node now (get_or (names_of node) 0 []) ≡ Truth false
        tick_value only = input_value 0 (some_input node.inputs only) ∙ ap (λ (b : Bool). Truth (get_or (cond b (false ∷ letter) letter) 0 false)) only where
          some_input : (inputs : List Name) → has_only_tick inputs ≡ true → 0 < length inputs
          some_input [] only = absurd (both_ways false refl only)
          some_input (input ∷ inputs) only = omega arith

  -- ---- words

  -- what stands in the slots of names
  valuation_kept : (before : Option Values) (now : Valuation) (letter : List Bool) → IsInstant node before now letter → (store : List ℕ)
      → Mirrors (names_of node) (known_but []) (λ name. value_number (value_in node now name)) store
      → take (length (names_of node)) (drop first_name store) ≡ map value_number now
  valuation_kept before now letter instant store mirrors =
      first_numbers (length (names_of node)) store (map value_number now) (length-map now value_number ∙ instant.count) (omega (arith, mirrors.long))
      (λ place below.
      mirrors.numbers place below refl
      ∙ ap value_number (ap (λ (n : ℕ). get_or now n (Truth false)) (position_at (names_of node) distinct place below))
      ∙ sym (get_or-map value_number now place (Truth false) 0 (omega (arith, below, instant.count))))

  answer_kept : (now : Valuation) (store : List ℕ) → Mirrors (names_of node) (known_but []) (λ name. value_number (value_in node now name)) store
      → is_accepting node_program store ≡ is_true (value_in node now ok)
  answer_kept now store mirrors =
      ap (λ (n : ℕ). n == 1) (mirrors.numbers (length node.inputs) (omega (arith, count_of)) refl)
      ∙ truth_is (value_in node now (get_or (names_of node) (length node.inputs) []))
      ∙ ap (λ (name : Name). is_true (value_in node now name)) ok_there
    where
      ok_there : get_or (names_of node) (length node.inputs) [] ≡ ok
      ok_there = (let e : length node.inputs ≡ length node.inputs + 0 = omega arith in ap (λ (n : ℕ). get_or (names_of node) n []) e)
          ∙ get_or-append-add node.inputs (ok ∷ local_names node) 0 []

  pub record Ends (trace : List Valuation) (end : List ℕ) : Type 0 where
    pub store : AreOfLast (take (length (names_of node)) (drop first_name end)) trace
    pub answer : is_accepting node_program end ≡ is_ok node trace

  pub word_ends : (letter : List Bool) (word : Word) (before : Option Values) (trace : List Valuation) → IsTraceFrom node before (letter ∷ word) trace
      → AllByRecursion (λ (letter : List Bool). length letter ≡ width_of node) (letter ∷ word) → (store : List ℕ) → Runs before store
      → Ends trace (after_word node_program store (letter ∷ word))
  word_ends letter word before [] is wide store runs = absurd is
  word_ends letter [] before (now ∷ []) is wide store runs =
      let step = stepped before now letter is.0 wide.0 store runs in
      record {
        store = valuation_kept before now letter is.0 (after_letter node_program store letter) step.mirrors;
        answer = answer_kept now (after_letter node_program store letter) step.mirrors;
      }
  word_ends letter [] before (now ∷ next ∷ trace) is wide store runs = absurd is.1
  word_ends letter (second ∷ word) before (now ∷ []) is wide store runs = absurd is.1
  word_ends letter (second ∷ word) before (now ∷ next ∷ trace) is wide store runs =
      let step = stepped before now letter is.0 wide.0 store runs in
      let rest = word_ends second word (Some (value_in node now)) (next ∷ trace) is.1 wide.1 (after_letter node_program store letter) step.next in
      record { store = rest.store; answer = rest.answer }

  pub follows_node : (store : List ℕ) → Runs None store → Follows (Lustre node) [] (record { program = node_program; store = store })
  follows_node store runs = record {
    width = refl;
    store = λ more wide. kept more (recursion_from_All (λ (letter : List Bool). length letter ≡ width_of node) more wide);
    answers = λ more behaviour. accepted more behaviour;
  } where
    kept : (more : Word) → AllByRecursion (λ (letter : List Bool). length letter ≡ width_of node) more → (trace : List Valuation) → IsTrace node more trace
        → AreOfLast (take (length (names_of node)) (drop first_name (after_word node_program store more))) trace
    kept [] wide [] is = tt
    kept [] wide (now ∷ trace) is = absurd is
    kept (letter ∷ word) wide trace is = (word_ends letter word None trace is wide store runs).store

    accepted : (more : Word) → IsBehaviour (width_of node) more → IsTrue (rest_of (record { program = node_program; store = store }) more) ↔ Accepts node more
    accepted [] behaviour = absurd (omega (arith, behaviour.nonempty))
    accepted (letter ∷ word) behaviour =
        let wide = recursion_from_All (λ (letter : List Bool). length letter ≡ width_of node) (letter ∷ word) behaviour.widths in
        let some = exists node well (letter ∷ word) behaviour.widths in (
          (λ (yes : IsTrue _). record { trace = some.0; is = some.1; accepted = subst IsTrue (word_ends letter word None some.0 some.1 wide store runs).answer yes }),
          (λ (accepts : Accepts node (letter ∷ word)). subst IsTrue (sym (word_ends letter word None accepts.trace accepts.is wide store runs).answer) accepts.accepted),
        )
