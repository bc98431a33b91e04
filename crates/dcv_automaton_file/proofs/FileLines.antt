-- A file that keeps the table rules, as lines of nodes and rows: where it is numbered by the walk they are listed, and they have the numbers of the
-- file's table.
--     lines_of file             its lines
--     listed_lines              of a file that is numbered they are listed
--     file_is_numbered          and a file is numbered whose lines are
--     same_numbers              files with one table have the same numbers
use Rattle.std.proofs.Common.{◌≡◌, ℕ, ◌<◌, List, [], ◌++◌, ◌∷◌, length, map, fold, get_or, sym, ap, ◌∙◌, subst, arith, Bool}
use Rattle.std.specs.Prelude.{bytes_eq}
use Rattle.std.specs.List.{range_with_len}
use Rattle.std.proofs.lemmas.List.{length-map, get_or-map}
use Rattle.std.proofs.lemmas.List.Elements.{All-map}
use Rattle.std.proofs.lemmas.List.Folds.{fold-map}
use Rattle.std.proofs.lemmas.List.Sums.{passes_at_first}
use Rattle.std.proofs.lemmas.Option.{slice_get_within, get_or_from_slice_get}
use Rattle.std.proofs.lemmas.Slice.Eq.{bytes_eq-Decides}
use Rattle.dcv_word.specs.Letter.{letters_of_width}
use Rattle.dcv_language.specs.Table.{TableState, no_state}
use Rattle.dcv_language.specs.declared.child.Child.{Child}
use Rattle.dcv_language.specs.declared.child.Child.TheVariants.{State, Node}
use Rattle.dcv_arena.proofs.Tables.{same_values}
use Rattle.dcv_dfa.specs.declared.node_lines.NodeLine.{NodeLine as CodeNodeLine}
use Rattle.dcv_dfa.specs.NodeLines.{NodeLinesValue, IsBelow, ComesAfter, IsLine, AreReducedRows, lines_and_rows, state_at, states_at}
use Rattle.dcv_automaton_text.specs.File.{NodeLine, StateLine, AutomatonFile}
use Rattle.dcv_automaton_text.specs.GoodFile.{IsChild, IsRow, IsGoodFile}
use Rattle.dcv_automaton_text.specs.Meaning.{state_at as file_state_at, states_at as file_states_at, table_of}
use Rattle.dcv_automaton_text.specs.Numbering.{visits_of as file_visits_of, visit_by, numbered_nodes, IsNumbered}
use Rattle.dcv_automaton_text.specs.Rules.{slot_of, slot_of_node}
use Rattle.dcv_automaton_text.proofs.GoodTables.{no_line, state-at}
use Rattle.dcv_automaton_file.specs.Listed.{visit_node, visits_of, numbered_lines, AreNumbered, AreListed, number_in}
use Rattle.dcv_automaton_file.proofs.Tables.{line_for, same_state, same_states}

abbrev pub lines_of : AutomatonFile → NodeLinesValue
lines_of file = lines_and_rows (map (line_for file.names) file.node_lines) (map (λ (line : StateLine). line.row) file.state_lines)

pub no_node : NodeLine
no_node = record { number = 0; name = []; hi = State 0; lo = State 0 }

-- ---- names

name_at : (names : List (List ℕ)) (name : List ℕ) → slot_of names name < length names → name ≡ get_or names (slot_of names name) []
name_at names name within = (bytes_eq-Decides name (get_or names (slot_of names name) [])).0 (passes_at_first (bytes_eq name) names [] within)

-- names with one place are one name
pub same_name : (names : List (List ℕ)) (one other : List ℕ) → slot_of names one < length names → slot_of names other < length names → slot_of names one ≡ slot_of names other → one ≡ other
same_name names one other within its_within same = name_at names one within ∙ ap (λ slot. get_or names slot []) same ∙ sym (name_at names other its_within)

-- ---- the walk

same_walk : (file : AutomatonFile) → numbered_lines (lines_of file) ≡ numbered_nodes file
unfolding visits_of file_visits_of numbered_nodes
same_walk file =
    let step = λ (visits : List (List ℕ → List ℕ)) (line : CodeNodeLine). visits ++ visit_node visits (length visits) line ∷ [] in
    fold-map (visit_by (visits_of (lines_of file).lines)) (λ (line : StateLine). line.row) [] file.state_lines
    ∙ (λ i. fold (λ nodes (line : StateLine). visit_by (fold-map step (line_for file.names) [] file.node_lines i) nodes line.row) [] file.state_lines)

pub file_is_numbered : (file : AutomatonFile) → AreNumbered (lines_of file) → IsNumbered file
file_is_numbered file are = sym (same_walk file) ∙ are ∙ ap (range_with_len 0) (length-map file.node_lines (line_for file.names))

-- ---- the lines

module _ (file : AutomatonFile) (is : IsGoodFile file) where
  abbrev lines : List CodeNodeLine
  lines = (lines_of file).lines

  abbrev line : ℕ → NodeLine
  line place = get_or file.node_lines place no_node

  count : length lines ≡ length file.node_lines
  count = length-map file.node_lines (line_for file.names)

  line-at : (place : ℕ) (d : CodeNodeLine) → place < length file.node_lines → get_or lines place d ≡ line_for file.names (line place)
  line-at place d within = get_or-map (line_for file.names) file.node_lines place no_node d within

  slot-at : (place : ℕ) → place < length file.node_lines → slot_of_node file place ≡ slot_of file.names (line place).name
  slot-at place within = ap (slot_of file.names) (get_or-map (λ (line : NodeLine). line.name) file.node_lines place no_node [] within)

  child_below : (place : ℕ) (target : Child) → IsChild file place target → IsBelow file.states place target
  child_below place (State number) is_child = is_child
  child_below place (Node number) is_child = is_child.earlier

  child_after : (place : ℕ) (target : Child) → place < length file.node_lines → IsChild file place target → ComesAfter lines (slot_of file.names (line place).name) target
  child_after place (State number) within is_child = tt
  child_after place (Node number) within is_child = λ later e.
      let earlier = is_child.earlier in
      let there = sym (line-at number later (omega arith)) ∙ get_or_from_slice_get lines number later later e in
      omega (arith, is_child.later_variable, slot-at place within, slot-at number (omega arith), ap (λ (line : CodeNodeLine). line.slot) there)

  is_line : (place : ℕ) → place < length file.node_lines → IsLine (length file.names) file.states lines place (line_for file.names (line place))
  is_line place within =
      let good = is.node_lines place no_node within in
      record {
        slot = good.variable;
        differ = λ same. good.differ (sym same);
        lo_below = child_below place (line place).lo good.lo;
        hi_below = child_below place (line place).hi good.hi;
        lo_after = child_after place (line place).lo within good.lo;
        hi_after = child_after place (line place).hi within good.hi;
      }

  row_below : (target : Child) → IsRow file target → IsBelow file.states (length lines) target
  row_below (State number) is_row = is_row
  row_below (Node number) is_row = omega (arith, is_row, count)

  reduced : AreReducedRows (length file.names) file.states file.states (lines_of file)
  reduced = record {
    lines = λ place its e.
        let within : place < length file.node_lines = omega (arith, slice_get_within lines place its e, count) in
        subst (IsLine (length file.names) file.states lines place) (sym (line-at place its within) ∙ get_or_from_slice_get lines place its its e) (is_line place within);
    once = λ first second d before within same.
        let inside : second < length file.node_lines = omega (arith, within, count) in
        let one = is.node_lines first no_node (omega arith) in
        let other = is.node_lines second no_node inside in
        let alike = sym (line-at first d (omega arith)) ∙ same ∙ line-at second d inside in
        is.nodes_differ first second no_node before inside (record {
          name = same_name file.names (line first).name (line second).name one.variable other.variable (ap (λ (line : CodeNodeLine). line.slot) alike);
          hi = ap (λ (line : CodeNodeLine). line.hi) alike;
          lo = ap (λ (line : CodeNodeLine). line.lo) alike;
        });
    count = length-map file.state_lines (λ (line : StateLine). line.row) ∙ is.all_states;
    rows = All-map (IsBelow file.states (length lines)) (λ (line : StateLine). line.row) file.state_lines (λ k d within.
        row_below (get_or file.state_lines k d).row (is.state_lines k d within).row);
  }

  pub listed_lines : IsNumbered file → AreListed (length file.names) file.states file.states (lines_of file)
  listed_lines numbered =
      let nodes = is.nodes in
      record {
        reduced = reduced;
        numbered = same_walk file ∙ numbered ∙ ap (range_with_len 0) (sym count);
        few = omega (arith, nodes, count);
      }

-- ---- numbers

abbrev number_of_file : AutomatonFile → ℕ → List Bool → ℕ
number_of_file file place letter = file_state_at (file_states_at file.names letter file.node_lines) (get_or file.state_lines place no_line).row

its_number : (file : AutomatonFile) (place : ℕ) (letter : List Bool) → place < length file.state_lines → number_in (lines_of file) place letter ≡ number_of_file file place letter
its_number file place letter within =
    ap (state_at (states_at letter (lines_of file).lines)) (get_or-map (λ (line : StateLine). line.row) file.state_lines place no_line (State 0) within)
    ∙ sym (same_state (states_at letter (lines_of file).lines) (get_or file.state_lines place no_line).row)
    ∙ ap (λ states. file_state_at states (get_or file.state_lines place no_line).row) (sym (same_states file.names letter file.node_lines))

pub same_numbers : (one other : AutomatonFile) → one.names ≡ other.names → table_of one ≡ table_of other → (place : ℕ) (letter : List Bool) → place < length one.state_lines
    → place < length other.state_lines → length letter ≡ length one.names → number_in (lines_of one) place letter ≡ number_in (lines_of other) place letter
same_numbers one other names tables place letter within its_within width =
    its_number one place letter within
    ∙ same_values (length one.names) (number_of_file one place) (number_of_file other place)
    (ap (λ (state : TableState). state.row) (sym (state-at one place no_state within) ∙ ap (λ table. get_or table place no_state) tables ∙ state-at other place no_state its_within)
    ∙ (λ i. map (number_of_file other place) (letters_of_width (length (sym names i)))))
    letter width
    ∙ sym (its_number other place letter its_within)
