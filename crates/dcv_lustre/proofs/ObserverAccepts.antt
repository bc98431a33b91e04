-- The observer of a file accepts what the file's table accepts.
use Rattle.std.proofs.Common.{◌≡◌, ◌↔◌, ℕ, suc, ◌+◌, ◌<◌, Bool, true, false, not, cond, ◌||◌, IsTrue, List, [], ◌∷◌, ◌++◌, length, map}
use Rattle.std.proofs.Common.{get_or, Option, Some, None, inl, inr, refl, sym, ap, subst, ◌∙◌, arith}
use Rattle.std.specs.Prelude.{bytes_eq}
use Rattle.std.specs.List.{AllByRecursion}
use Rattle.std.proofs.lemmas.Bool.{cases_Bool, false≢true}
use Rattle.std.proofs.lemmas.List.{length-map, get_or-map}
use Rattle.std.proofs.lemmas.List.Elements.{recursion_from_All}
use Rattle.dcv_word.specs.Behaviour.{Word, IsBehaviour}
use Rattle.dcv_word.specs.Laws.{LetterStandsAtItsBits}
use Rattle.dcv_language.specs.Automaton.{accepts_from}
use Rattle.dcv_language.specs.Table.{IsTable, next_in, automaton_of, table_accepts}
use Rattle.dcv_language.proofs.Bounds.{next-below}
use Rattle.dcv_automaton_text.specs.File.{AutomatonFile}
use Rattle.dcv_automaton_text.specs.Meaning.{states_at, table_of}
use Rattle.dcv_automaton_text.specs.Rules.{slot_of}
use Rattle.dcv_automaton_text.proofs.GoodTables.{length-table_of}
use Rattle.dcv_observer.specs.Naming.{is_among}
use Rattle.dcv_observer.proofs.Naming.{one_name}
use Rattle.dcv_automaton_file.proofs.ObservedFiles.{GoodRows, no_row, IsObservable}
use Rattle.dcv_automaton_file.proofs.Leading.{states_count, table_leads, table_accepts_at}
use Rattle.dcv_lustre.specs.Tree.{Truth, Number, Equation, Node}
use Rattle.dcv_lustre.specs.Meaning.{ok, Values, Valuation, value_in, has_only_tick, delayed_value, right_value, IsInstant, IsTraceFrom, IsTrace}
use Rattle.dcv_lustre.specs.Meaning.{is_ok, is_true, Accepts}
use Rattle.dcv_lustre.specs.Observer.{next_name, state_name, input_name, input_names, observer_of, state_equation, node_equation, next_equation, ok_equation}
use Rattle.dcv_lustre.proofs.ObserverRuns.{AreStates, nodes_stand, rows_stand, output_stands}

-- ---- what is there of each

pub append_parts : {X : Type 0} (P : X → Type 0) (xs ys : List X) → AllByRecursion P (xs ++ ys) → AllByRecursion P xs × AllByRecursion P ys
append_parts P [] ys h = (tt, h)
append_parts P (x ∷ xs) ys h = let rest = append_parts P xs ys h.1 in ((h.0, rest.0), rest.1)

-- a name that is listed stands at its slot
pub name_stands : (names : List (List ℕ)) (name : List ℕ) → is_among names name ≡ true
    → (slot_of names name < length names) × (get_or names (slot_of names name) [] ≡ name)
name_stands [] name among = absurd (false≢true among)
name_stands (n ∷ names) name among =
    elim (cases_Bool (bytes_eq name n)) [
      | inl same ↦
          let here : slot_of (n ∷ names) name ≡ 0 = ap (λ b. cond (not b) (1 + slot_of names name) 0) same in
          subst (λ slot. (slot < length (n ∷ names)) × (get_or (n ∷ names) slot [] ≡ name)) (sym here) (omega arith, sym (one_name name n same))
      | inr differ ↦
          let later : is_among names name ≡ true = ap (λ b. b || is_among names name) (sym differ) ∙ among in
          let there : slot_of (n ∷ names) name ≡ suc (slot_of names name) =
          ap (λ b. cond (not b) (1 + slot_of names name) 0) differ ∙ (let e : 1 + slot_of names name ≡ suc (slot_of names name) = omega arith in e) in
          let rest = name_stands names name later in
          subst (λ slot. (slot < length (n ∷ names)) × (get_or (n ∷ names) slot [] ≡ name)) (sym there) (let below = rest.0 in omega arith, rest.1)
    ]

-- ---- inputs

pub not_tick : (names : List (List ℕ)) → 0 < length names → has_only_tick (input_names names) ≡ false
not_tick [] some = absurd (omega arith)
not_tick (name ∷ []) some = refl
not_tick (name ∷ other ∷ names) some = refl

module _ (file : AutomatonFile) (good : IsObservable file) (stands : LetterStandsAtItsBits) where
  abbrev node : Node
  node = observer_of file

  observer_inputs : node.inputs ≡ input_names file.names
  unfolding observer_of
  observer_inputs = refl

  observer_equations : node.equations ≡ state_equation ∷ map node_equation file.node_lines ++ (next_equation file.state_lines ∷ ok_equation file.state_lines ∷ [])
  unfolding observer_of
  observer_equations = refl

  inputs_stand : (before : Option Values) (now : Valuation) (letter : List Bool) → IsInstant node before now letter
      → (name : List ℕ) → is_among file.names name ≡ true → value_in node now (input_name name) ≡ Truth (get_or letter (slot_of file.names name) false)
  inputs_stand before now letter instant name among =
      let at = name_stands file.names name among in
      subst (λ (n : List ℕ). value_in node now (input_name n) ≡ Truth (get_or letter (slot_of file.names name) false)) at.1
      (by_names file.names (slot_of file.names name) at.0 instant.inputs observer_inputs)
    where
      by_names : (names : List (List ℕ)) (slot : ℕ) → slot < length names
          → map (value_in node now) node.inputs ≡ map Truth (cond (has_only_tick node.inputs) (false ∷ letter) letter)
          → node.inputs ≡ input_names names → value_in node now (input_name (get_or names slot [])) ≡ Truth (get_or letter slot false)
      by_names [] slot within same is = absurd (omega arith)
      by_names (name ∷ names) slot within same is =
          let ns = name ∷ names in
          let plain : has_only_tick node.inputs ≡ false = ap has_only_tick is ∙ not_tick ns (omega arith) in
          let values : map (value_in node now) (map input_name ns) ≡ map Truth letter =
          ap (map (value_in node now)) (sym is) ∙ same ∙ ap (λ b. map Truth (cond b (false ∷ letter) letter)) plain in
          let size : length ns ≡ length letter =
          sym (length-map ns input_name) ∙ sym (length-map (map input_name ns) (value_in node now)) ∙ ap length values ∙ length-map letter Truth in
          sym (get_or-map (value_in node now) (map input_name ns) slot (input_name []) (Truth false) (omega (arith, length-map ns input_name))
          ∙ ap (value_in node now) (get_or-map input_name ns slot [] (input_name []) within))
          ∙ ap (λ vs. get_or vs slot (Truth false)) values
          ∙ get_or-map Truth letter slot false (Truth false) (omega (arith, size))

  record Follows (values : Values) (state : ℕ) : Type 0 where
    pub next : values next_name ≡ Number state
    pub output : values ok ≡ Truth (get_or file.state_lines state no_row).accepting

  instant_follows : (before : Option Values) (now : Valuation) (letter : List Bool) (state : ℕ) → IsInstant node before now letter
      → length letter ≡ length file.names → delayed_value before (Number 0) next_name ≡ Number state → state < length file.state_lines
      → Follows (value_in node now) (next_in (table_of file) state letter)
  unfolding states_at
  instant_follows before now letter state instant width at within =
      let values = value_in node now in
      let most = length file.state_lines in
      let solves : Equation → Type 0 = λ equation. values equation.left ≡ right_value before values equation.right in
      let solved : AllByRecursion solves (state_equation ∷ map node_equation file.node_lines ++ (next_equation file.state_lines ∷ ok_equation file.state_lines ∷ [])) =
      subst (AllByRecursion solves) observer_equations (recursion_from_All solves node.equations instant.equations) in
      let parts = append_parts solves (map node_equation file.node_lines) _ solved.1 in
      let states = states_at file.names letter file.node_lines in
      let are : AreStates values before states =
      nodes_stand values before file.names letter most (inputs_stand before now letter instant) file.node_lines [] 0 refl (λ k none. absurd (omega arith)) good.lines parts.0 in
      let st : values state_name ≡ Number (0 + state) = solved.0 ∙ at ∙ (let e : state ≡ 0 + state = omega arith in ap Number e) in
      let count : length states ≡ length file.node_lines =
      states_count file.names letter file.node_lines [] ∙ (let e : 0 + length file.node_lines ≡ length file.node_lines = omega arith in e) in
      let rows : GoodRows most (length states) 0 file.state_lines = subst (λ n. GoodRows most n 0 file.state_lines) (sym count) good.rows in
      let nx : values next_name ≡ Number (next_in (table_of file) state letter) =
      parts.1.0 ∙ rows_stand values before states most file.state_lines 0 state are rows within st
      ∙ ap Number (sym (table_leads file stands state letter within width)) in
      record { next = nx; output = parts.1.1.0 ∙ output_stands values before (next_in (table_of file) state letter) nx most (length file.node_lines) file.state_lines good.rows }

  module _ (table : IsTable (length file.names) (table_of file)) where
    next_below : (state : ℕ) (letter : List Bool) → state < length file.state_lines → next_in (table_of file) state letter < length file.state_lines
    next_below state letter within =
        let size = length-table_of file in
        let below = next-below (length file.names) (table_of file) table state letter (omega (arith, within, size)) in
        omega (arith, below, size)

    trace_follows : (before : Option Values) (word : Word) (trace : List Valuation) (state : ℕ) → IsTraceFrom node before word trace
        → AllByRecursion (λ letter. length letter ≡ length file.names) word → 0 < length word
        → delayed_value before (Number 0) next_name ≡ Number state → state < length file.state_lines
        → is_ok node trace ≡ accepts_from (automaton_of (table_of file)) state word
    trace_follows before [] trace state h widths some at within = absurd (omega arith)
    trace_follows before (letter ∷ word) [] state h widths some at within = absurd h
    trace_follows before (letter ∷ []) (now ∷ []) state h widths some at within =
        ap is_true (instant_follows before now letter state h.0 widths.0 at within).output
        ∙ sym (table_accepts_at file stands (next_in (table_of file) state letter) (next_below state letter within))
    trace_follows before (letter ∷ []) (now ∷ other ∷ trace) state h widths some at within = absurd h.1
    trace_follows before (letter ∷ second ∷ word) (now ∷ []) state h widths some at within = absurd h.1
    trace_follows before (letter ∷ second ∷ word) (now ∷ other ∷ trace) state h widths some at within =
        trace_follows (Some (value_in node now)) (second ∷ word) (other ∷ trace) (next_in (table_of file) state letter) h.1 widths.1 (omega arith)
        (instant_follows before now letter state h.0 widths.0 at within).next (next_below state letter within)

    -- ---- acceptance

    pub observer_accepts : (word : Word) → IsBehaviour (length file.names) word → (some : (trace : List Valuation) × IsTrace node word trace)
        → Accepts node word ↔ IsTrue (table_accepts (table_of file) word)
    observer_accepts [] is some = absurd (omega (arith, is.nonempty))
    observer_accepts (letter ∷ word) is some =
        let widths = recursion_from_All (λ (letter : List Bool). length letter ≡ length file.names) (letter ∷ word) is.widths in
        let same : (trace : List Valuation) → IsTrace node (letter ∷ word) trace → is_ok node trace ≡ table_accepts (table_of file) (letter ∷ word) =
        λ trace h. trace_follows None (letter ∷ word) trace 0 h widths (omega arith) refl good.some_rows in (
          λ accepts. sym (same accepts.trace accepts.is) ∙ accepts.accepted,
          λ accepted. record { trace = some.0; is = some.1; accepted = same some.0 some.1 ∙ accepted },
        )
