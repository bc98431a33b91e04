-- What a controller's unit returns is what the controller answers.
use Rattle.std.proofs.Common.{◌≡◌, ℕ, suc, ◌+◌, ◌≤◌, Bool, false, cond, nat_eq, ltb, true, List, [], ◌∷◌, ◌++◌, length, map, fold, get_or}
use Rattle.std.proofs.Common.{refl, sym, ap, subst, ◌∙◌, arith}
use Rattle.std.specs.Prelude.{bytes_eq}
use Rattle.std.specs.List.{position_or_len}
use Rattle.std.proofs.lemmas.Bool.{ltb-true, ltb-false}
use Rattle.std.proofs.lemmas.List.{get_or_past}
use Rattle.std.proofs.lemmas.List.Sums.{fold-append}
use Rattle.dcv_word.specs.Behaviour.{Word, IsBehaviour}
use Rattle.dcv_word.specs.Letter.{letter_of}
use Rattle.dcv_language.specs.Automaton.{state_from}
use Rattle.dcv_language.specs.Limits.{most_nodes, number_bound}
use Rattle.dcv_automaton_file.proofs.Tables.{slot_at}
use Rattle.dcv_arena.specs.Arena.{value_of}
use Rattle.dcv_arena.specs.declared.nodes.Ref.TheVariants.{Leaf}
use Rattle.dcv_language.specs.declared.child.Child.TheVariants.{State}
use Rattle.dcv_dfa.specs.NodeLines.{NodeLinesValue, IsBelow, lines_of_rows, state_at, states_at}
use Rattle.dcv_dfa.specs.Laws.{LinesHaveTheNumbersOfTheRows}
use Rattle.dcv_observer.proofs.Naming.{Name}
use Rattle.dcv_observer.proofs.ObserverNames.{next_is_no_node}
use Rattle.dcv_c.specs.Meaning.{Numbers, zeros, assigned, executed, truth_number, numbers_before, numbers_after, UnitState, stepped, automaton_of_unit}
use Rattle.dcv_c.specs.Observer.{state_name, next_name, node_name, parameter_name}
use Rattle.dcv_c.proofs.ObserverRuns.{assigned_there, assigned_elsewhere}
use Rattle.dcv_c.proofs.ObserverAccepts.{number_at, place_of_parameter}
use Rattle.dcv_synth.specs.Control.{ControlValue, RowsValue, IsControl, AreRowsBelow, value_in, step_of, controller_by, lines_of, unit_of}
use Rattle.dcv_synth.specs.Units.{ControlLines, output_name, output_node_name, input_name, choices, all_state_choices, last_statement}
use Rattle.dcv_synth.specs.Units.{unit_of_lines, controller_in}
use Rattle.dcv_synth.proofs.UnitLines.{AreGoodUnitLines}
use Rattle.dcv_synth.proofs.NodeNames.{node_differs, output_node_differs, no_local}
use Rattle.dcv_synth.proofs.UnitRuns.{InputsStand, steps_count, Leads, all_choices_lead, StandsAt, rows_lead}

abbrev state_with : ℕ → ℕ → UnitState
state_with state returned = record { store = state ∷ []; returned = returned }

-- ---- a step of the unit of lines

module _ (all : ControlLines) (good : AreGoodUnitLines all) (state : ℕ) (letter : List Bool) where
  abbrev firsts : List ℕ
  firsts = states_at letter all.next.lines

  abbrev seconds : List ℕ
  seconds = states_at letter all.output.lines

  abbrev place : ℕ
  place = position_or_len (nat_eq state) all.states

  abbrev next_number : ℕ
  next_number = state_at firsts (get_or all.next.rows place (State 0))

  abbrev output_number : ℕ
  output_number = state_at seconds (get_or all.output.rows place (State 0))

  abbrev before : Numbers
  before = numbers_before (unit_of_lines all) zeros (state ∷ []) letter

  state_before : before state_name ≡ state
  unfolding unit_of_lines
  state_before =
      ap (λ b. cond b 0 state) (no_local (length all.next.lines) (length all.output.lines) good.next.few good.output.few state_name refl refl (λ k. refl) (λ k. refl))

  inputs_before : InputsStand all.names letter before
  unfolding unit_of_lines
  inputs_before slot below =
      let name = get_or all.names slot [] in
      let numbers = state ∷ map truth_number letter in
      let place = position_or_len (bytes_eq (parameter_name name)) (map parameter_name all.names) in
      let at : 1 + place ≡ suc slot = omega (arith, place_of_parameter all.names name, slot_at all.names slot good.names.differ below) in
      ap (λ b. cond b 0 (get_or numbers (1 + place) 0))
      (no_local (length all.next.lines) (length all.output.lines) good.next.few good.output.few (parameter_name name) refl refl (λ k. refl) (λ k. refl))
      ∙ ap (λ k. get_or numbers k 0) at ∙ number_at letter slot

  abbrev cleared_numbers : Numbers
  cleared_numbers = assigned (assigned before next_name 0) output_name 0

  abbrev after_nexts : Numbers
  after_nexts = fold executed cleared_numbers (choices node_name all.names all.next.lines)

  abbrev after_outputs : Numbers
  after_outputs = fold executed after_nexts (choices output_node_name all.names all.output.lines)

  nexts_lead : Leads all.names letter node_name
      (λ k j small also differ. node_differs k j (omega (arith, small)) (omega (arith, also)) differ) (λ k other. refl) cleared_numbers after_nexts firsts
  unfolding states_at
  nexts_lead =
      all_choices_lead all.names letter node_name
      (λ k j small also differ. node_differs k j (omega (arith, small)) (omega (arith, also)) differ) (λ k other. refl) cleared_numbers
      inputs_before all.next.lines good.next.few good.next.lines

  inputs_after : InputsStand all.names letter after_nexts
  inputs_after slot below = nexts_lead.others (input_name all.names slot) (λ k small. refl) ∙ inputs_before slot below

  outputs_lead : Leads all.names letter output_node_name
      (λ k j small also differ. output_node_differs k j (omega (arith, small)) (omega (arith, also)) differ) (λ k other. refl) after_nexts after_outputs seconds
  unfolding states_at
  outputs_lead =
      all_choices_lead all.names letter output_node_name
      (λ k j small also differ. output_node_differs k j (omega (arith, small)) (omega (arith, also)) differ) (λ k other. refl) after_nexts
      inputs_after all.output.lines good.output.few good.output.lines

  firsts_count : length firsts ≡ length all.next.lines
  unfolding states_at
  firsts_count = steps_count letter all.next.lines [] ∙ (let e : 0 + length all.next.lines ≡ length all.next.lines = omega arith in e)

  seconds_count : length seconds ≡ length all.output.lines
  unfolding states_at
  seconds_count = steps_count letter all.output.lines [] ∙ (let e : 0 + length all.output.lines ≡ length all.output.lines = omega arith in e)

  few_firsts : length firsts ≤ most_nodes
  few_firsts = omega (arith, firsts_count, good.next.few)

  stands_first : StandsAt state firsts seconds few_firsts after_outputs 0 0
  stands_first =
      record {
        state_is = outputs_lead.others state_name (λ k small. refl) ∙ nexts_lead.others state_name (λ k small. refl) ∙ state_before;
        next_is = outputs_lead.others next_name (λ k small. refl) ∙ nexts_lead.others next_name (λ k small. next_is_no_node k (omega (arith, small)))
            ∙ assigned_there before next_name 0;
        output_is = outputs_lead.others output_name (λ k small. refl) ∙ nexts_lead.others output_name (λ k small. refl)
            ∙ assigned_there (assigned before next_name 0) output_name 0;
        nexts = λ k below. outputs_lead.others (node_name k) (λ j small. refl) ∙ nexts_lead.nodes k below;
        outputs = outputs_lead.nodes;
      }

  abbrev after_rows : Numbers
  after_rows = fold executed after_outputs (all_state_choices all.states all.next.rows all.output.rows)

  stands_last : StandsAt state firsts seconds few_firsts after_rows next_number output_number
  stands_last =
      rows_lead state firsts seconds few_firsts all.states all.next.rows all.output.rows good.next.count good.output.count
      (λ i j earlier within. good.in_order i j 0 earlier within)
      (λ k within. subst (λ n. IsBelow number_bound n (get_or all.next.rows k (State 0))) (sym firsts_count) (good.next.rows k (State 0) within))
      (λ k within. subst (λ n. IsBelow number_bound n (get_or all.output.rows k (State 0))) (sym seconds_count) (good.output.rows k (State 0) within))
      after_outputs stands_first

  abbrev after : Numbers
  after = assigned after_rows state_name (after_rows next_name)

  executed_all : numbers_after (unit_of_lines all) zeros (state ∷ []) letter ≡ after
  unfolding unit_of_lines
  executed_all =
      let nexts = choices node_name all.names all.next.lines in
      let outputs = choices output_node_name all.names all.output.lines in
      let rows = all_state_choices all.states all.next.rows all.output.rows in
      fold-append executed cleared_numbers nexts (outputs ++ (rows ++ last_statement ∷ []))
      ∙ fold-append executed after_nexts outputs (rows ++ last_statement ∷ [])
      ∙ fold-append executed after_outputs rows (last_statement ∷ [])

  pub step_is : stepped (unit_of_lines all) zeros (state ∷ []) letter ≡ state_with next_number output_number
  unfolding unit_of_lines
  step_is =
      let store : after state_name ≡ next_number = assigned_there after_rows state_name (after_rows next_name) ∙ stands_last.next_is in
      let returned : after output_name ≡ output_number = assigned_elsewhere after_rows state_name (after_rows next_name) output_name refl ∙ stands_last.output_is in
      ap (λ (now : Numbers). state_with (now state_name) (now output_name)) executed_all ∙ (λ i. state_with (store i) (returned i))

-- ---- a step of the controller's unit

module _ (law : LinesHaveTheNumbersOfTheRows) (names : List Name) (control : ControlValue) (is : IsControl control) (good : AreGoodUnitLines (lines_of names control)) where
  number_of_row : (bound : ℕ) (rows : RowsValue) → AreRowsBelow bound control.states rows → (place : ℕ) (letter : List Bool)
      → let all = lines_of_rows rows.arena rows.rows in
      length all.rows ≡ length control.states
      → state_at (states_at letter all.lines) (get_or all.rows place (State 0)) ≡ value_in rows place letter
  number_of_row bound rows are place letter count = by (ltb place (length rows.rows)) refl
    where
      all : NodeLinesValue
      all = lines_of_rows rows.arena rows.rows

      by : (b : Bool) → ltb place (length rows.rows) ≡ b → state_at (states_at letter all.lines) (get_or all.rows place (State 0)) ≡ value_in rows place letter
      by true e = law rows.arena rows.rows place letter are.are.arena are.are.refs (ltb-true place (length rows.rows) e)
      by false e =
          let past = ltb-false place (length rows.rows) e in
          ap (state_at (states_at letter all.lines)) (get_or_past all.rows place (State 0) (omega (arith, past, count, are.count)))
          ∙ sym (ap (λ ref. value_of rows.arena ref letter) (get_or_past rows.rows place (Leaf 0) past))

  step_answers : (state : ℕ) (letter : List Bool)
      → let place = position_or_len (nat_eq state) control.states in
      stepped (unit_of names control) zeros (state ∷ []) letter ≡ state_with (value_in control.next place letter) (value_in control.output place letter)
  step_answers state letter =
      let place = position_or_len (nat_eq state) control.states in
      let next = number_of_row number_bound control.next is.next place letter good.next.count in
      let output = number_of_row 256 control.output is.output place letter good.output.count in
      step_is (lines_of names control) good state letter ∙ (λ i. state_with (next i) (output i))

  -- ---- words

  abbrev goes_on : ℕ → ℕ × List Bool → List Bool → ℕ × List Bool
  goes_on m before input = step_of m control before.0 input

  answers_from : (m : ℕ) (inputs : Word) (state returned : ℕ)
      → letter_of m (state_from (automaton_of_unit (unit_of names control)) (state_with state returned) inputs).returned
      ≡ (fold (goes_on m) (state, letter_of m returned) inputs).1
  answers_from m [] state returned = refl
  answers_from m (input ∷ inputs) state returned =
      let place = position_or_len (nat_eq state) control.states in
      ap (λ (at : UnitState). letter_of m (state_from (automaton_of_unit (unit_of names control)) at inputs).returned) (step_answers state input)
      ∙ answers_from m inputs (value_in control.next place input) (value_in control.output place input)

  starts : (automaton_of_unit (unit_of names control)).start ≡ state_with 0 0
  unfolding unit_of_lines
  starts = refl

  pub unit_answers : (m : ℕ) (inputs : Word) → IsBehaviour control.next.arena.slots inputs → controller_in m (unit_of names control) inputs ≡ controller_by m control inputs
  unit_answers m [] behaviour = absurd (omega (arith, behaviour.nonempty))
  unit_answers m (input ∷ inputs) behaviour =
      ap (λ (at : UnitState). letter_of m (state_from (automaton_of_unit (unit_of names control)) at (input ∷ inputs)).returned) starts
      ∙ answers_from m (input ∷ inputs) 0 0
