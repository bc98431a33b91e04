-- The observer of a file accepts what the file's table accepts.
use Rattle.std.proofs.Common.{◌≡◌, ℕ, zero, suc, ◌+◌, ◌<◌, Bool, false, not, cond, nat_eq, List, [], ◌∷◌, ◌++◌, length, map, fold, get_or}
use Rattle.std.proofs.Common.{refl, sym, ap, subst, ◌∙◌, arith}
use Rattle.std.specs.Prelude.{bytes_eq}
use Rattle.std.specs.List.{AllByRecursion, position_or_len}
use Rattle.std.proofs.lemmas.Bool.{or_from}
use Rattle.std.proofs.lemmas.List.Elements.{recursion_from_All}
use Rattle.std.proofs.lemmas.List.Sums.{fold-append}
use Rattle.dcv_word.specs.Behaviour.{Word}
use Rattle.dcv_word.specs.Laws.{LetterStandsAtItsBits}
use Rattle.dcv_language.specs.Automaton.{accepts_from}
use Rattle.dcv_language.specs.Language.{HaveSameBehaviours}
use Rattle.dcv_language.specs.Table.{IsTable, next_in, automaton_of, table_accepts}
use Rattle.dcv_language.proofs.Bounds.{next-below}
use Rattle.dcv_automaton_text.specs.File.{AutomatonFile}
use Rattle.dcv_automaton_text.specs.Meaning.{state_at, states_at, table_of}
use Rattle.dcv_automaton_text.specs.Rules.{slot_of}
use Rattle.dcv_automaton_text.proofs.GoodTables.{length-table_of}
use Rattle.dcv_observer.specs.Naming.{is_among}
use Rattle.dcv_observer.proofs.Naming.{Name}
use Rattle.dcv_observer.proofs.ObserverNames.{among_no_nodes}
use Rattle.dcv_automaton_file.proofs.ObservedFiles.{GoodRows, no_row, IsObservable}
use Rattle.dcv_automaton_file.proofs.Leading.{states_count, row_at, table_leads, table_accepts_at}
use Rattle.dcv_c.specs.Meaning.{Numbers, Store, zeros, assigned, executed, returned_number, truth_number, numbers_before, UnitState, stepped}
use Rattle.dcv_c.specs.Meaning.{automaton_of_unit, unit_accepts}
use Rattle.dcv_c.specs.Observer.{next_name, state_name, node_name, parameter_name, node_statement, state_statement, last_statement}
use Rattle.dcv_c.specs.Observer.{accepting_tests, returned_for, observer_of}
use Rattle.dcv_c.proofs.ObserverNames.{names_of_locals}
use Rattle.dcv_c.proofs.ObserverRuns.{assigned_there, assigned_elsewhere, Stands, stands_with_next, nodes_stand, rows_lead, answer_stands}

-- ---- parameters

pub number_at : (letter : List Bool) (k : ℕ) → get_or (map truth_number letter) k 0 ≡ truth_number (get_or letter k false)
number_at [] zero = refl
number_at [] (suc k) = refl
number_at (truth ∷ letter) zero = refl
number_at (truth ∷ letter) (suc k) = number_at letter k

pub place_of_parameter : (names : List Name) (name : Name) → position_or_len (bytes_eq (parameter_name name)) (map parameter_name names) ≡ slot_of names name
place_of_parameter [] name = refl
place_of_parameter (n ∷ names) name = ap (λ k. cond (not (bytes_eq name n)) (1 + k) 0) (place_of_parameter names name)

module _ (file : AutomatonFile) (good : IsObservable file) (stands : LetterStandsAtItsBits) where
  -- ---- a step

  no_local : (name : Name) → bytes_eq name next_name ≡ false → ((k : ℕ) → bytes_eq name (node_name k) ≡ false) → is_among (observer_of file).locals name ≡ false
  unfolding observer_of
  no_local name other nodes =
      ap (λ names. is_among (next_name ∷ names) name) (names_of_locals file.names (length file.state_lines) 0 file.node_lines good.lines)
      ∙ or_from (bytes_eq name next_name) _ other (among_no_nodes name 0 file.node_lines (λ k from below. nodes k))

  stands_before : (state : ℕ) (letter : List Bool) → Stands file.names letter state (numbers_before (observer_of file) zeros (state ∷ []) letter) []
  unfolding observer_of
  stands_before state letter =
      record {
        state_is = ap (λ b. cond b 0 state) (no_local state_name refl (λ k. refl));
        parameters = λ name among.
            let numbers = state ∷ map truth_number letter in
            let place = position_or_len (bytes_eq (parameter_name name)) (map parameter_name file.names) in
            let next : 1 + place ≡ suc (slot_of file.names name) = omega (arith, place_of_parameter file.names name) in
            ap (λ b. cond b 0 (get_or numbers (1 + place) 0)) (no_local (parameter_name name) refl (λ k. refl))
            ∙ ap (λ k. get_or numbers k 0) next ∙ number_at letter (slot_of file.names name);
        nodes = λ k within. absurd (omega (arith, within));
      }

  record IsIn (at : UnitState) (state : ℕ) : Type 0 where
    store : at.store ≡ state ∷ []
    answer : not (nat_eq at.returned 0) ≡ (get_or file.state_lines state no_row).accepting

  step_leads : (state : ℕ) (letter : List Bool) → state < length file.state_lines → length letter ≡ length file.names
      → IsIn (stepped (observer_of file) zeros (state ∷ []) letter) (next_in (table_of file) state letter)
  unfolding observer_of states_at
  step_leads state letter within width =
      let most = length file.state_lines in
      let lines = map node_statement file.node_lines in
      let rows = map state_statement file.state_lines in
      let states = states_at file.names letter file.node_lines in
      let count : length states ≡ length file.node_lines =
      states_count file.names letter file.node_lines [] ∙ (let e : 0 + length file.node_lines ≡ length file.node_lines = omega arith in e) in
      let begin = assigned (numbers_before (observer_of file) zeros (state ∷ []) letter) next_name 0 in
      let first = stands_with_next file.names letter state (numbers_before (observer_of file) zeros (state ∷ []) letter) [] 0 (omega arith) (stands_before state letter) in
      let second = nodes_stand file.names letter state most file.node_lines [] 0 begin refl (omega (arith, good.few_lines)) good.lines first in
      let third = rows_lead file.names letter state states most file.state_lines 0 state (omega (arith, count, good.few_lines))
      (subst (λ n. GoodRows most n 0 file.state_lines) (sym count) good.rows) within (omega arith) (fold executed begin lines) second in
      let last = fold executed (fold executed begin lines) rows in
      let next = state_at states (row_at file stands state) in
      let after = assigned last state_name (last next_name) in
      let next_is : after next_name ≡ next = assigned_elsewhere last state_name (last next_name) next_name refl ∙ third.next_is in
      let same : fold executed begin (lines ++ (rows ++ last_statement ∷ [])) ≡ after =
      fold-append executed begin lines (rows ++ last_statement ∷ []) ∙ fold-append executed (fold executed begin lines) rows (last_statement ∷ []) in
      let lead : next ≡ next_in (table_of file) state letter = sym (table_leads file stands state letter within width) in
      let done : IsIn (stepped (observer_of file) zeros (state ∷ []) letter) next =
      record {
        store = ap (λ (now : Numbers). now state_name ∷ []) same ∙ ap (λ n. n ∷ []) (assigned_there last state_name (last next_name) ∙ third.next_is);
        answer = ap (λ (now : Numbers). not (nat_eq (returned_number now (returned_for (accepting_tests file.state_lines))) 0)) same
            ∙ answer_stands after next next_is most (length file.node_lines) file.state_lines good.rows;
      } in
      subst (IsIn (stepped (observer_of file) zeros (state ∷ []) letter)) lead done

  reset_leads : (automaton_of_unit (observer_of file)).start.store ≡ 0 ∷ []
  unfolding observer_of
  reset_leads = refl

  -- ---- words

  module _ (table : IsTable (length file.names) (table_of file)) where
    next_below : (state : ℕ) (letter : List Bool) → state < length file.state_lines → next_in (table_of file) state letter < length file.state_lines
    next_below state letter within =
        let size = length-table_of file in
        let below = next-below (length file.names) (table_of file) table state letter (omega (arith, within, size)) in
        omega (arith, below, size)

    step_from : (store : Store) (state : ℕ) (letter : List Bool) → store ≡ state ∷ [] → state < length file.state_lines → length letter ≡ length file.names
        → IsIn (stepped (observer_of file) zeros store letter) (next_in (table_of file) state letter)
    step_from store state letter is within width =
        subst (λ store. IsIn (stepped (observer_of file) zeros store letter) (next_in (table_of file) state letter)) (sym is) (step_leads state letter within width)

    accepts_so : (word : Word) (at : UnitState) (state : ℕ) → IsIn at state → state < length file.state_lines
        → AllByRecursion (λ letter. length letter ≡ length file.names) word
        → accepts_from (automaton_of_unit (observer_of file)) at word ≡ accepts_from (automaton_of (table_of file)) state word
    accepts_so [] at state is within widths = is.answer ∙ sym (table_accepts_at file stands state within)
    accepts_so (letter ∷ word) at state is within widths =
        accepts_so word (stepped (observer_of file) zeros at.store letter) (next_in (table_of file) state letter)
        (step_from at.store state letter is.store within widths.0) (next_below state letter within) widths.1

    pub observer_accepts : HaveSameBehaviours (length file.names) (unit_accepts (observer_of file)) (table_accepts (table_of file))
    observer_accepts [] is = absurd (omega (arith, is.nonempty))
    observer_accepts (letter ∷ word) is =
        let widths = recursion_from_All (λ (letter : List Bool). length letter ≡ length file.names) (letter ∷ word) is.widths in
        let start = (automaton_of_unit (observer_of file)).start.store in
        accepts_so word (stepped (observer_of file) zeros start letter) (next_in (table_of file) 0 letter)
        (step_from start 0 letter reset_leads good.some_rows widths.0) (next_below 0 letter good.some_rows) widths.1
