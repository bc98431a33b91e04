-- The complement of a canonical table is the canonical one of the machine that is its own, turned. The machine has just its states and
-- its nodes.
use Rattle.std.proofs.Common.{◌≡◌, ℕ, zero, suc, ◌<◌, ◌≤◌, List, [], ◌∷◌, length, map, get_or, Some, slice_get, refl, sym, ap, subst, ◌∙◌, arith}
use Rattle.std.specs.Option.{option_map}
use Rattle.std.specs.List.{range_with_len}
use Rattle.std.proofs.lemmas.List.{length-map}
use Rattle.std.proofs.lemmas.List.FromFn.{get_or-range_with_len, length-range_with_len}
use Rattle.std.proofs.lemmas.Option.{slice_get-map, slice_get-get_or, slice_get_within, get_or_from_slice_get, same_Some}
use Rattle.dcv_word.specs.Behaviour.{Word}
use Rattle.dcv_arena.specs.Arena.{value_of}
use Rattle.dcv_arena.specs.declared.nodes.Ref.{Ref}
use Rattle.dcv_arena.specs.declared.nodes.Ref.TheVariants.{Leaf}
use Rattle.dcv_arena.proofs.Counts.{count_exact}
use Rattle.dcv_language.specs.Automaton.{Automaton, WorkingMachine, IsReached, state_from, accepts}
use Rattle.dcv_language.specs.Canonical.{IsCanonical}
use Rattle.dcv_language.specs.Complement.{stands_alone}
use Rattle.dcv_language.specs.Language.{HaveSameBehaviours, outside}
use Rattle.dcv_language.specs.OperationMachines.{not_machine}
use Rattle.dcv_language.specs.Laws.{OneCanonicalTable}
use Rattle.dcv_language.specs.Table.{Table, leads_to, table_accepts, automaton_of as table_automaton}
use Rattle.dcv_language.proofs.Behaviours.{Widths}
use Rattle.dcv_language.proofs.Canonicals.{canonical_for_same_behaviours}
use Rattle.dcv_language.proofs.Complements.{complement_is_canonical}
use Rattle.dcv_language.proofs.OperationRuns.{not_accepts}
use Rattle.dcv_language.proofs.Runs.{start_is_reached}
use Rattle.dcv_language.proofs.Sameness.{outside_same}
use Rattle.dcv_dfa.specs.Raw.{RawValue, IsRaw, raw_accepts, next_in, row_of}
use Rattle.dcv_dfa.specs.Auto.{IsAuto, table_of_states, count_of_nodes, complement_of}
use Rattle.dcv_dfa.proofs.Complements.{table_of_complement, complement_is_raw, still_auto, accepts_outside}
use Rattle.dcv_dfa.proofs.States.{table_has_the_states, table_has_the_steps, table_accepts_as_the_states, leads_below}
use Rattle.dcv_explore.specs.declared.explorer.Limits.{Limits}
use Rattle.dcv_explore.specs.Exploring.{IsExploring}
use Rattle.dcv_explore.specs.Reached.{HasCounts}
use Rattle.dcv_explore.proofs.Finished.{counts}
use Rattle.dcv_shelf.specs.Shelf.{ShelfTable, table_of_auto, nodes_of_table, IsComplement}
use Rattle.dcv_build.specs.Settled.{IsOwn, IsBuilt}
use Rattle.dcv_build.proofs.ShelfTables.{nodes_by_table}

-- ---- the numbers below a number

place_in_range : (n place number : ℕ) → slice_get (range_with_len 0 n) place ≡ Some number → (place ≡ number) × (number < n)
place_in_range n place number there =
    let within = slice_get_within (range_with_len 0 n) place number there in
    let size = length-range_with_len 0 n in
    let below : place < n = omega (arith, within, size) in
    let same : place ≡ number = omega (arith, get_or-range_with_len 0 n place number below, get_or_from_slice_get (range_with_len 0 n) place number number there) in
    (same, omega (arith, below, same))

in_range : (n number : ℕ) → number < n → slice_get (range_with_len 0 n) number ≡ Some number
in_range n number below =
    let size = length-range_with_len 0 n in
    slice_get-get_or (range_with_len 0 n) number number (omega (arith, below, size))
    ∙ ap Some (get_or-range_with_len 0 n number number below ∙ omega arith)

-- ---- the turned machine

module _ (slots : ℕ) (operand : Automaton ℕ) where
  -- it steps as the operand does
  steps_alike : (word : Word) (state : ℕ) → state_from (not_machine slots operand).automaton state word ≡ state_from operand state word
  steps_alike [] state = refl
  steps_alike (letter ∷ word) state = steps_alike word (operand.next state letter)

module _ (raw : RawValue) (is : IsRaw raw) (auto : IsAuto raw) where
  abbrev turned_machine : WorkingMachine ℕ
  turned_machine = not_machine raw.arena.slots (table_automaton (table_of_states raw))

  abbrev states : List ℕ
  states = range_with_len 0 (length raw.rows)

  reached_by : (state : ℕ) (word : Word) → Widths raw.arena.slots word → leads_to (table_of_states raw) word ≡ state → IsReached turned_machine state
  reached_by state word widths leads = record {
    word = word;
    widths = widths;
    leads = steps_alike raw.arena.slots (table_automaton (table_of_states raw)) word 0 ∙ leads;
  }

  each_is_reached : (state : ℕ) → state < length raw.rows → IsReached turned_machine state
  each_is_reached zero below = start_is_reached turned_machine
  each_is_reached (suc state) below =
      let count = table_has_the_states raw in
      let least = auto.canonical.least (suc state) (omega arith) (omega (arith, below, count)) in
      reached_by (suc state) _ least.behaviour.widths least.member

  states_are : (place d : ℕ) → place < length states → get_or states place d ≡ place
  states_are place d within = get_or-range_with_len 0 (length raw.rows) place d (omega (arith, within, length-range_with_len 0 (length raw.rows))) ∙ omega arith

  exploring : IsExploring turned_machine (length raw.rows) states raw.arena raw.rows (map turned_machine.accepting states)
  exploring = record {
    known = record {
      are_reached = record {
        reached = λ place d within.
            subst (IsReached turned_machine) (sym (states_are place d within))
            (each_is_reached place (omega (arith, within, length-range_with_len 0 (length raw.rows))));
        once = λ i j d before within same.
            omega (arith, before, same, states_are i d (omega arith), states_are j d within);
      };
      within = omega (arith, length-range_with_len 0 (length raw.rows));
      bound = is.states;
    };
    start = in_range (length raw.rows) 0 (omega (arith, is.start));
    arena_is = is.arena;
    slots = refl;
    behind = omega (arith, length-range_with_len 0 (length raw.rows));
    flags_beside = length-map states turned_machine.accepting ∙ length-range_with_len 0 (length raw.rows);
    refs = is.rows;
    steps = λ place row state at_row at_state letter size.
        let here = place_in_range (length raw.rows) place state at_state in
        let same : row_of raw state ≡ row = ap (row_of raw) (sym here.0) ∙ get_or_from_slice_get raw.rows place row (Leaf 0) at_row in
        let below = leads_below raw is state here.1 letter size in
        ap (λ (r : Ref). slice_get states (value_of raw.arena r letter)) (sym same)
        ∙ in_range (length raw.rows) (next_in raw state letter) below
        ∙ ap Some (sym (table_has_the_steps raw state letter here.1 size));
    flags = λ place flag state at_flag at_state.
        same_Some flag (turned_machine.accepting state) (sym at_flag ∙ slice_get-map turned_machine.accepting states place ∙ ap (option_map turned_machine.accepting) at_state);
    nodes = auto.nodes;
  }

  turned_counts : HasCounts turned_machine (length raw.rows) (length raw.arena.nodes)
  turned_counts = counts turned_machine (length raw.rows) states raw.arena raw.rows (map turned_machine.accepting states) exploring (sym (length-range_with_len 0 (length raw.rows)))

  nodes_are : length raw.arena.nodes ≡ nodes_of_table (table_of_auto raw)
  nodes_are = count_exact raw.arena is.arena.reduced raw.rows is.rows auto.nodes ∙ nodes_by_table raw

  -- ---- the complement

  abbrev pub other : RawValue
  other = complement_of (stands_alone auto.access) raw

  pub other_is_raw : IsRaw other
  other_is_raw = complement_is_raw (stands_alone auto.access) raw is

  pub other_is_auto : IsAuto other
  other_is_auto = (still_auto complement_is_canonical canonical_for_same_behaviours raw (stands_alone auto.access) is (record { auto = auto; alone = refl })).auto

  pub other_accepts : HaveSameBehaviours raw.arena.slots (raw_accepts other) (outside (raw_accepts raw))
  other_accepts = accepts_outside complement_is_canonical canonical_for_same_behaviours raw (stands_alone auto.access) is (record { auto = auto; alone = refl })

  outside_is : IsCanonical raw.arena.slots (outside (raw_accepts raw)) (table_of_states other) auto.access
  outside_is =
      subst (λ (table : Table). IsCanonical raw.arena.slots (outside (raw_accepts raw)) table auto.access)
      (sym (table_of_complement raw auto.access is.flags))
      (complement_is_canonical raw.arena.slots (raw_accepts raw) (table_of_states raw) auto.access auto.canonical)

  -- for the words that the table does not accept
  outside_table : IsCanonical raw.arena.slots (outside (table_accepts (table_of_states raw))) (table_of_states other) auto.access
  outside_table =
      canonical_for_same_behaviours raw.arena.slots (outside (raw_accepts raw)) (outside (table_accepts (table_of_states raw))) (table_of_states other) auto.access
      (outside_same raw.arena.slots (raw_accepts raw) (table_accepts (table_of_states raw)) (λ word behaves. sym (table_accepts_as_the_states raw is auto.start word behaves))) outside_is

  pub is_complement : IsComplement (table_of_auto raw) (table_of_auto other)
  is_complement = record {
    slots = refl;
    access = auto.access;
    canonical = outside_table;
    states = omega (arith, table_has_the_states other, table_has_the_states raw);
    nodes = sym (nodes_by_table other) ∙ nodes_by_table raw;
  }

  module _ (one_canonical : OneCanonicalTable) (limits : Limits) (own_states : length raw.rows ≤ limits.states) (own_nodes : count_of_nodes raw ≤ limits.nodes)
      (turned : ShelfTable) (complement : IsComplement (table_of_auto raw) turned) where
    -- which is the table of the turned automaton
    turned_is : table_of_auto other ≡ turned
    turned_is =
        let same = (one_canonical raw.arena.slots (outside (table_accepts (table_of_states raw))) (table_of_states other) turned.table auto.access complement.access
        outside_table complement.canonical).0 in
        λ i. record { slots = sym complement.slots i; table = same i }

    complement_is : (many nodes : ℕ) → many ≡ length (table_of_states raw) → nodes ≡ nodes_of_table (table_of_auto raw)
        → IsBuilt turned_machine 0 limits turned many nodes
    complement_is many nodes many_are nodes_same =
        let count : length raw.rows ≡ many = omega (arith, many_are, table_has_the_states raw) in
        record {
          counts = record {
            of_rows = length raw.arena.nodes;
            counts = subst (λ n. HasCounts turned_machine n (length raw.arena.nodes)) count turned_counts;
            nodes_are = omega (arith, nodes_same, nodes_are);
          };
          states_within = omega (arith, count, own_states);
          nodes_within = omega (arith, nodes_same, own_nodes, nodes_by_table raw);
          slots = complement.slots;
          access = complement.access;
          canonical = canonical_for_same_behaviours raw.arena.slots (outside (table_accepts (table_of_states raw)))
              (accepts turned_machine.automaton) turned.table complement.access
              (λ word behaves. sym (not_accepts raw.arena.slots (table_automaton (table_of_states raw)) word behaves.nonempty)) complement.canonical;
          own = record {
            auto = other;
            raw = other_is_raw;
            auto_is = other_is_auto;
            table = turned_is;
            states = own_states;
            nodes = own_nodes;
          };
        }

-- the complement of a table that stands on a shelf
pub complement_is_built : OneCanonicalTable → (limits : Limits) (one turned : ShelfTable) → IsOwn limits one → IsComplement one turned
    → (states nodes : ℕ) → states ≡ length one.table → nodes ≡ nodes_of_table one
    → IsBuilt (not_machine one.slots (table_automaton one.table)) 0 limits turned states nodes
complement_is_built one_canonical limits one turned own complement states nodes states_are nodes_are =
    let As : ShelfTable → Type 0 = λ (one : ShelfTable). IsComplement one turned → states ≡ length one.table → nodes ≡ nodes_of_table one
    → IsBuilt (not_machine one.slots (table_automaton one.table)) 0 limits turned states nodes in
    subst As own.table
    (λ complement states_are nodes_are. complement_is own.auto own.raw own.auto_is one_canonical limits own.states own.nodes turned complement states nodes states_are nodes_are)
    complement states_are nodes_are
