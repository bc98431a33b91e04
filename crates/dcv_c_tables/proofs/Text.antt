-- What is put of an automaton is the text of its file's tables.
use Rattle.std.proofs.Common.{◌≡◌, ◌≢◌, ℕ, suc, ◌+◌, ◌<◌, Bool, true, false, not, ◌==◌, List, [], ◌∷◌, ◌++◌, length, map, refl, sym, ap, ◌∙◌, arith, codes}
use Rattle.std.specs.List.{All, AllPairs, enumerate_from, flat_map, range_with_len}
use Rattle.std.proofs.lemmas.List.{length-map, append-nil}
use Rattle.std.proofs.lemmas.List.FromFn.{length-enumerate_from}
use Rattle.dcv_language.specs.declared.child.Child.{Child}
use Rattle.dcv_dfa.specs.declared.node_lines.NodeLine.{NodeLine as CodeLine}
use Rattle.dcv_dfa.specs.NodeLines.{node_lines_of}
use Rattle.dcv_dfa.specs.Raw.{RawValue, is_accepting}
use Rattle.dcv_automaton_text.specs.File.{NodeLine, StateLine, AccessLine, SuffixLine}
use Rattle.dcv_automaton_file.specs.File.{node_line, state_line, file_of}
use Rattle.dcv_automaton_file.specs.Lines.{listed_by}
use Rattle.dcv_automaton_file.proofs.PutLines.{listed_names}
use Rattle.dcv_automaton_file.proofs.Tables.{slot_at}
use Rattle.dcv_observer.specs.Layouts.{Word, ◌<>◌}
use Rattle.dcv_c_tables.specs.Unit.{TableNode, TableState, Tables}
use Rattle.dcv_c_tables.specs.Layout.{text_in, type_for, number_line, row_line, accept_line, accept_number, array_lines, char_type, row_head, accept_head, node_arrays}
use Rattle.dcv_c_tables.specs.Layout.{counts_line, reset_lines, declaration, parameters_layout, body_lines, has_nodes, layout_of, text_of}
use Rattle.dcv_c_tables.specs.Observer.{parameter_name, place_of, seen_node, table_node, table_state, tables_of}

-- ---- parts

abbrev parameters_put : List (List ℕ) → List ℕ
parameters_put names = listed_by (codes "int v_") [] (codes ", ") (codes "void") names

parameters_are : (names : List (List ℕ)) → parameters_put names ≡ text_in (parameters_layout (map parameter_name names))
parameters_are [] = refl
parameters_are (name ∷ names) =
    listed_names (codes "int v_") [] (codes ", ") (codes "void") parameter_name (λ name. text_in (declaration name))
    (λ text. ap (λ text. codes "int v_" ++ text) (append-nil text)) name names

nodes_seen : (names : List (List ℕ)) (states : ℕ) → AllPairs ◌≢◌ names → (first : ℕ) (lines : List CodeLine) → All (λ (line : CodeLine). line.slot < length names) lines
    → map (seen_node states) lines ≡ map (table_node names states) (map (node_line names) (enumerate_from first lines))
nodes_seen names states differ first [] below = refl
nodes_seen names states differ first (line ∷ lines) below =
    let slot = sym (slot_at names line.slot differ (below 0 line (omega arith))) in
    let rest = nodes_seen names states differ (first + 1) lines (λ k d within. below (suc k) d (omega (arith, within))) in
    λ i. record { variable = slot i; high = place_of states line.hi; low = place_of states line.lo } ∷ rest i

rows_seen : (raw : RawValue) (states first : ℕ) (rows : List Child)
    → flat_map (λ (row : Child). text_in (number_line (place_of states row))) rows
    ≡ flat_map (λ (state : TableState). text_in (row_line state)) (map (table_state states) (map (state_line raw) (enumerate_from first rows)))
rows_seen raw states first [] = refl
rows_seen raw states first (row ∷ rows) = ap (λ more. text_in (number_line (place_of states row)) ++ more) (rows_seen raw states (first + 1) rows)

accepts_seen : (raw : RawValue) (states first : ℕ) (rows : List Child)
    → flat_map (λ state. text_in (number_line (accept_number (is_accepting raw state)))) (range_with_len first (length rows))
    ≡ flat_map (λ (state : TableState). text_in (accept_line state)) (map (table_state states) (map (state_line raw) (enumerate_from first rows)))
accepts_seen raw states first [] = refl
accepts_seen raw states first (row ∷ rows) =
    ap (λ more. text_in (number_line (accept_number (is_accepting raw first))) ++ more) (accepts_seen raw states (first + 1) rows)

some_seen : (names : List (List ℕ)) (states first : ℕ) (lines : List CodeLine) (some : Bool) → (length lines ≡ 0 → some ≡ false) → ((length lines ≡ 0 → ⊥) → some ≡ true)
    → some ≡ has_nodes (map (table_node names states) (map (node_line names) (enumerate_from first lines)))
some_seen names states first [] some none there = none refl
some_seen names states first (line ∷ lines) some none there = there (λ e. absurd (omega (arith, e)))

-- ---- the whole

abbrev pub whole : (states nodes variables : ℕ) (integer : List ℕ) (table : List TableNode) (rows accepts parameters : List ℕ) (names : List (List ℕ)) (some : Bool) → List ℕ
whole states nodes variables integer table rows accepts parameters names some =
    text_in (counts_line states nodes variables <> node_arrays integer table
    <> (array_lines integer row_head (Word rows) <> array_lines char_type accept_head (Word accepts))
    <> reset_lines integer <> (Word parameters <> Word (codes ")\n{\n") <> body_lines integer names some))

abbrev pub put_of : RawValue → List (List ℕ) → List CodeLine → List Child → Bool → List ℕ
put_of raw names lines rows some =
    let states = length raw.rows in
    whole states (length lines) (length names) (type_for (states + length lines)) (map (seen_node states) lines)
    (flat_map (λ (row : Child). text_in (number_line (place_of states row))) rows)
    (flat_map (λ state. text_in (number_line (accept_number (is_accepting raw state)))) (range_with_len 0 states))
    (parameters_put names) (map parameter_name names) some

-- the same, by what the code has at hand
pub put_is : (raw : RawValue) (names : List (List ℕ)) (lines : List CodeLine) (rows : List Child) (integer : List ℕ) (states variables : ℕ) (some : Bool)
    → states ≡ length raw.rows → integer ≡ type_for (states + length lines) → variables ≡ length names
    → whole states (length lines) variables integer (map (seen_node states) lines)
    (flat_map (λ (row : Child). text_in (number_line (place_of states row))) rows)
    (flat_map (λ state. text_in (number_line (accept_number (is_accepting raw state)))) (range_with_len 0 (length raw.rows)))
    (parameters_put names) (map parameter_name names) some
    ≡ put_of raw names lines rows some
put_is raw names lines rows integer states variables some size is width =
    let types = is ∙ ap (λ n. type_for (n + length lines)) size in
    λ i. whole (size i) (length lines) (width i) (types i) (map (seen_node (size i)) lines)
    (flat_map (λ (row : Child). text_in (number_line (place_of (size i) row))) rows)
    (flat_map (λ state. text_in (number_line (accept_number (is_accepting raw state)))) (range_with_len 0 (length raw.rows)))
    (parameters_put names) (map parameter_name names) some

pub some_there : (n : ℕ) → (n ≡ 0 → ⊥) → not (n == 0) ≡ true
some_there n there = let other : (n == 0) ≡ false = grind (arith, there) in ap not other

module _ (raw : RawValue) (names : List (List ℕ)) where
  abbrev node_lines : List CodeLine → List NodeLine
  node_lines lines = map (node_line names) (enumerate_from 0 lines)

  abbrev row_lines : List Child → List StateLine
  row_lines rows = map (state_line raw) (enumerate_from 0 rows)

  abbrev unit_of : List CodeLine → List Child → Tables
  unit_of lines rows =
      let states = length (row_lines rows) in
      record {
        parameters = map parameter_name names;
        nodes = map (table_node names states) (node_lines lines);
        states = map (table_state states) (row_lines rows);
      }

  unit_text : (lines : List CodeLine) (rows : List Child) (some : Bool) → length rows ≡ length raw.rows
      → AllPairs ◌≢◌ names → All (λ (line : CodeLine). line.slot < length names) lines
      → (length lines ≡ 0 → some ≡ false) → ((length lines ≡ 0 → ⊥) → some ≡ true)
      → put_of raw names lines rows some ≡ text_of (unit_of lines rows)
  unfolding layout_of text_of
  unit_text lines rows some count differ below none there =
      let states = length (row_lines rows) in
      let many : length raw.rows ≡ states = sym (length-map (enumerate_from 0 rows) (state_line raw) ∙ length-enumerate_from 0 rows ∙ count) in
      let sizes : length raw.rows ≡ length (map (table_state states) (row_lines rows)) = many ∙ sym (length-map (row_lines rows) (table_state states)) in
      let nodes : length lines ≡ length (map (table_node names states) (node_lines lines)) =
      sym (length-map (node_lines lines) (table_node names states) ∙ length-map (enumerate_from 0 lines) (node_line names) ∙ length-enumerate_from 0 lines) in
      let variables : length names ≡ length (map parameter_name names) = sym (length-map names parameter_name) in
      let table : map (seen_node (length raw.rows)) lines ≡ map (table_node names states) (node_lines lines) =
      nodes_seen names (length raw.rows) differ 0 lines below ∙ ap (λ n. map (table_node names n) (node_lines lines)) many in
      let row_texts = rows_seen raw (length raw.rows) 0 rows
      ∙ ap (λ n. flat_map (λ (state : TableState). text_in (row_line state)) (map (table_state n) (row_lines rows))) many in
      let accept_texts = ap (λ n. flat_map (λ state. text_in (number_line (accept_number (is_accepting raw state)))) (range_with_len 0 n)) (sym count)
      ∙ accepts_seen raw states 0 rows in
      let parameters = parameters_are names in
      let is_some = some_seen names states 0 lines some none there in
      λ i. whole (sizes i) (nodes i) (variables i) (type_for (sizes i + nodes i)) (table i) (row_texts i) (accept_texts i) (parameters i) (map parameter_name names) (is_some i)

  pub text_is : (lines : List CodeLine) (rows : List Child) (some : Bool) (access : List AccessLine) (suffixes : List SuffixLine)
      → lines ≡ (node_lines_of raw).lines → rows ≡ (node_lines_of raw).rows → length rows ≡ length raw.rows
      → AllPairs ◌≢◌ names → All (λ (line : CodeLine). line.slot < length names) lines
      → (length lines ≡ 0 → some ≡ false) → ((length lines ≡ 0 → ⊥) → some ≡ true)
      → put_of raw names lines rows some ≡ text_of (tables_of (file_of raw names access suffixes))
  unfolding tables_of file_of
  text_is lines rows some access suffixes same all count differ below none there =
      unit_text lines rows some count differ below none there ∙ (λ i. text_of (unit_of (same i) (all i)))
