-- The tables of a file keep the rules, and accept what the file's table does.
use Rattle.std.proofs.Common.{◌≡◌, ℕ, zero, suc, ◌+◌, ◌-◌, ◌<◌, Bool, true, false, not, cond, nat_eq, List, [], ◌∷◌, length, map, get_or, refl, sym, ap, subst, ◌∙◌, arith}
use Rattle.std.specs.List.{AllByRecursion}
use Rattle.std.proofs.lemmas.Bool.{ltb-true}
use Rattle.std.proofs.lemmas.List.{length-map, get_or-map}
use Rattle.std.proofs.lemmas.List.Elements.{recursion_from_All}
use Rattle.dcv_word.specs.Behaviour.{Word}
use Rattle.dcv_word.specs.Laws.{LetterStandsAtItsBits}
use Rattle.dcv_language.specs.Automaton.{accepts_from}
use Rattle.dcv_language.specs.Language.{HaveSameBehaviours}
use Rattle.dcv_language.specs.Table.{IsTable, next_in, automaton_of, table_accepts}
use Rattle.dcv_language.proofs.Bounds.{next-below}
use Rattle.dcv_language.specs.declared.child.Child.{Child}
use Rattle.dcv_language.specs.declared.child.Child.TheVariants.{State, Node}
use Rattle.dcv_dfa.specs.NodeLines.{IsBelow}
use Rattle.dcv_automaton_text.specs.File.{NodeLine, StateLine, AutomatonFile}
use Rattle.dcv_automaton_text.specs.Laws.{GoodFilesAreTables}
use Rattle.dcv_automaton_text.specs.Meaning.{table_of}
use Rattle.dcv_automaton_text.specs.GoodFile.{IsChild, IsGoodFile}
use Rattle.dcv_automaton_text.specs.Rules.{slot_of, slot_of_node}
use Rattle.dcv_automaton_text.proofs.GoodTables.{length-table_of}
use Rattle.dcv_automaton_text.proofs.InWords.{listed_slot, good_files_in_words}
use Rattle.dcv_automaton_file.proofs.ObservedFiles.{GoodLines, GoodRows, no_row, IsObservable, good_is_observable}
use Rattle.dcv_automaton_file.proofs.Leading.{table_leads, table_accepts_at}
use Rattle.dcv_c_tables.specs.Unit.{TableNode, TableState, Tables, no_node, no_state}
use Rattle.dcv_c_tables.specs.Meaning.{walked, state_by, TablesState, stepped, automaton_of_tables, tables_accept}
use Rattle.dcv_c_tables.specs.Rules.{ArePlacedNodes, ComesLater, IsOrderedNode, IsTables, variable_at}
use Rattle.dcv_c_tables.specs.Observer.{parameter_name, place_of, table_node, table_state, tables_of}
use Rattle.dcv_c_tables.specs.Laws.{TablesOfFile}
use Rattle.dcv_c_tables.proofs.Ends.{steps_are_safe}
use Rattle.dcv_c_tables.proofs.Walks.{none, size, arrives}

-- ---- rules

place_below : (states bound : ℕ) (child : Child) → IsBelow states bound child → place_of states child < states + bound
place_below states bound (State state) below = omega (arith, below)
place_below states bound (Node number) below = omega (arith, below)

nodes_placed : (names : List (List ℕ)) (states number : ℕ) (lines : List NodeLine) → GoodLines names states number lines
    → ArePlacedNodes (length names) (states + number) (map (table_node names states) lines)
nodes_placed names states number [] good = tt
nodes_placed names states number (line ∷ lines) good = (
  record {
    variable = ltb-true (slot_of names line.name) (length names) (sym (listed_slot names line.name) ∙ good.0.listed);
    high = place_below states number line.hi good.0.hi;
    low = place_below states number line.lo good.0.lo;
  },
  subst (λ bound. ArePlacedNodes (length names) bound (map (table_node names states) lines)) (let here : states + (number + 1) ≡ states + number + 1 = omega arith in here)
      (nodes_placed names states (number + 1) lines good.1),
)

pub row_good : (states nodes number : ℕ) (rows : List StateLine) → GoodRows states nodes number rows → (k : ℕ) → k < length rows
    → IsBelow states nodes (get_or rows k no_row).row
row_good states nodes number [] good k within = absurd (omega (arith, within))
row_good states nodes number (row ∷ rows) good zero within = good.0.row
row_good states nodes number (row ∷ rows) good (suc k) within = row_good states nodes (number + 1) rows good.1 k (omega (arith, within))

module _ (file : AutomatonFile) (good : IsObservable file) (is : IsGoodFile file) where
  abbrev states : ℕ
  states = length file.state_lines

  abbrev unit : Tables
  unit = tables_of file

  state_there : (state : ℕ) (d : TableState) → state < states → get_or unit.states state d ≡ table_state states (get_or file.state_lines state no_row)
  unfolding tables_of
  state_there state d within = get_or-map (table_state states) file.state_lines state no_row d within

  nodes_size : length unit.nodes ≡ length file.node_lines
  unfolding tables_of
  nodes_size = length-map file.node_lines (table_node file.names states)

  names_size : length unit.parameters ≡ length file.names
  unfolding tables_of
  names_size = length-map file.names parameter_name

  nodes_are : ArePlacedNodes (length file.names) (states + 0) unit.nodes
  unfolding tables_of
  nodes_are = nodes_placed file.names states 0 file.node_lines good.lines

  row_below : (state : ℕ) (d : TableState) → state < length unit.states → (get_or unit.states state d).row < length unit.states + length unit.nodes
  row_below state d within =
      let there : state < states = omega (arith, within, size file good []) in
      let at = state_there state d there in
      let below = place_below states (length file.node_lines) (get_or file.state_lines state no_row).row (row_good states (length file.node_lines) 0 file.state_lines good.rows state there) in
      omega (arith, ap (λ (s : TableState). s.row) at, below, size file good [], nodes_size)

  -- ---- the order of variables

  node_there : (number : ℕ) (d : TableNode) → number < length file.node_lines
      → get_or unit.nodes number d ≡ table_node file.names states (get_or file.node_lines number none)
  unfolding tables_of
  node_there number d within = get_or-map (table_node file.names states) file.node_lines number none d within

  slot_there : (number : ℕ) → number < length file.node_lines → slot_of_node file number ≡ slot_of file.names (get_or file.node_lines number none).name
  slot_there number within = ap (slot_of file.names) (get_or-map (λ (line : NodeLine). line.name) file.node_lines number none [] within)

  child_later : (place : ℕ) (child : Child) → place < length file.node_lines → IsChild file place child
      → ComesLater unit (slot_of file.names (get_or file.node_lines place none).name) (place_of states child)
  child_later place (State number) within child beyond = absurd (omega (arith, beyond, size file good [], child, is.all_states))
  child_later place (Node number) within child beyond =
      let at : states + number - length unit.states ≡ number = omega (arith, size file good []) in
      let there : number < length file.node_lines = omega (arith, child.earlier, within) in
      let variable : variable_at unit (states + number) ≡ slot_of_node file number =
      ap (λ k. (get_or unit.nodes k no_node).variable) at ∙ ap (λ (node : TableNode). node.variable) (node_there number no_node there) ∙ sym (slot_there number there) in
      omega (arith, variable, slot_there place within, child.later_variable)

  nodes_ordered : (k : ℕ) (d : TableNode) → k < length unit.nodes → IsOrderedNode unit (get_or unit.nodes k d)
  nodes_ordered k d within =
      let there : k < length file.node_lines = omega (arith, within, nodes_size) in
      let line = is.node_lines k none there in
      subst (IsOrderedNode unit) (sym (node_there k d there)) (record {
        high = child_later k (get_or file.node_lines k none).hi there line.hi;
        low = child_later k (get_or file.node_lines k none).lo there line.lo;
      })

  pub keeps_rules : IsTables unit
  keeps_rules =
      record {
        few_parameters = omega (arith, names_size, good.names.count);
        some_states = omega (arith, size file good [], good.some_rows);
        few_states = omega (arith, size file good [], good.few_rows);
        few_nodes = omega (arith, nodes_size, good.few_lines);
        nodes =
            subst (λ width. ArePlacedNodes width (length unit.states) unit.nodes) (sym names_size)
            (subst (λ bound. ArePlacedNodes (length file.names) bound unit.nodes) (let here : states + 0 ≡ length unit.states = omega (arith, size file good []) in here) nodes_are);
        ordered = nodes_ordered;
        rows = row_below;
      }

  -- ---- words

  module _ (letters : LetterStandsAtItsBits) where
    leads : (state : ℕ) (letter : List Bool) → state < states → length letter ≡ length file.names → state_by unit letter state ≡ next_in (table_of file) state letter
    leads state letter within width =
        let row = (get_or file.state_lines state no_row).row in
        let at = state_there state no_state within in
        ap (λ most. walked unit letter most (get_or unit.states state no_state).row) nodes_size
        ∙ ap (λ (s : TableState). walked unit letter (length file.node_lines) s.row) at
        ∙ arrives file good letter (length file.node_lines) row (omega arith) (row_good states (length file.node_lines) 0 file.state_lines good.rows state within)
        ∙ sym (table_leads file letters state letter within width)

    record IsIn (at : TablesState) (state : ℕ) : Type 0 where
      kept : at.state ≡ state
      answer : not (nat_eq at.returned 0) ≡ (get_or file.state_lines state no_row).accepting

    one_for : (b : Bool) → not (nat_eq (cond b 1 0) 0) ≡ b
    one_for true = refl
    one_for false = refl

    module _ (table : IsTable (length file.names) (table_of file)) where
      next_below : (state : ℕ) (letter : List Bool) → state < states → next_in (table_of file) state letter < states
      next_below state letter within =
          let many = length-table_of file in
          let below = next-below (length file.names) (table_of file) table state letter (omega (arith, within, many)) in
          omega (arith, below, many)

      step_in : (at : TablesState) (state : ℕ) (letter : List Bool) → at.state ≡ state → state < states → length letter ≡ length file.names
          → IsIn (stepped unit at.state letter) (next_in (table_of file) state letter)
      step_in at state letter is within width =
          let next : state_by unit letter at.state ≡ next_in (table_of file) state letter = ap (state_by unit letter) is ∙ leads state letter within width in
          record {
            kept = next;
            answer =
                one_for (get_or unit.states (state_by unit letter at.state) no_state).accepts
                ∙ ap (λ n. (get_or unit.states n no_state).accepts) next
                ∙ ap (λ (s : TableState). s.accepts) (state_there (next_in (table_of file) state letter) no_state (next_below state letter within));
          }

      accepts_so : (word : Word) (at : TablesState) (state : ℕ) → IsIn at state → state < states
          → AllByRecursion (λ letter. length letter ≡ length file.names) word
          → accepts_from (automaton_of_tables unit) at word ≡ accepts_from (automaton_of (table_of file)) state word
      accepts_so [] at state is within widths = is.answer ∙ sym (table_accepts_at file letters state within)
      accepts_so (letter ∷ word) at state is within widths =
          accepts_so word (stepped unit at.state letter) (next_in (table_of file) state letter)
          (step_in at state letter is.kept within widths.0) (next_below state letter within) widths.1

      pub accept_the_same : HaveSameBehaviours (length file.names) (tables_accept unit) (table_accepts (table_of file))
      accept_the_same [] is = absurd (omega (arith, is.nonempty))
      accept_the_same (letter ∷ word) is =
          let widths = recursion_from_All (λ (letter : List Bool). length letter ≡ length file.names) (letter ∷ word) is.widths in
          let start = (automaton_of_tables unit).start in
          accepts_so word (stepped unit 0 letter) (next_in (table_of file) 0 letter)
          (step_in start 0 letter refl good.some_rows widths.0) (next_below 0 letter good.some_rows) widths.1

-- ---- the law

pub tables_of_file : LetterStandsAtItsBits → GoodFilesAreTables → TablesOfFile
tables_of_file letters tables file rules =
    let good = good_is_observable file rules in
    let is = (good_files_in_words file).0 rules in
    let kept = keeps_rules file good is in
    record {
      rules = kept;
      width = names_size file good is;
      steps = steps_are_safe (tables_of file) kept;
      accepts = accept_the_same file good is letters (tables file rules);
    }
