-- What a file has to be for its observer: its lines stand at their numbers, and what they name is there. So are the file of an automaton,
-- and each file that keeps the table rules.
--     GoodLines, GoodRows              the lines of nodes and of states
--     no_row                           the line of a state that is none
--     IsObservable file                what is needed of a file
use Rattle.std.proofs.Common.{◌≡◌, ℕ, suc, ◌+◌, ◌<◌, ◌≤◌, true, false, List, [], ◌∷◌, length, map, get_or, refl, sym, subst, ◌∙◌, arith}
use Rattle.std.specs.Prelude.{bytes_eq}
use Rattle.std.specs.List.{enumerate_from}
use Rattle.std.proofs.lemmas.Bool.{lt-ltb}
use Rattle.std.proofs.lemmas.List.{length-map}
use Rattle.std.proofs.lemmas.List.Folds.{list_any_at}
use Rattle.std.proofs.lemmas.List.FromFn.{length-enumerate_from}
use Rattle.std.proofs.lemmas.Option.{slice_get-get_or}
use Rattle.dcv_language.specs.Limits.{most_states, most_nodes}
use Rattle.dcv_language.specs.declared.child.Child.{Child}
use Rattle.dcv_language.specs.declared.child.Child.TheVariants.{State, Node as NodeAt}
use Rattle.dcv_dfa.specs.declared.node_lines.NodeLine.{NodeLine as CodeNodeLine}
use Rattle.dcv_dfa.specs.NodeLines.{node_lines_of, numbered, IsBelow, IsLine}
use Rattle.dcv_dfa.specs.Raw.{RawValue}
use Rattle.dcv_dfa.proofs.Reduced.{has_node_lines}
use Rattle.dcv_automaton_text.specs.File.{NodeLine, StateLine, AccessLine, SuffixLine, AutomatonFile}
use Rattle.dcv_automaton_text.specs.GoodFile.{IsChild, IsGoodNodeLine, IsRow, IsGoodStateLine, IsGoodFile}
use Rattle.dcv_automaton_text.specs.Rules.{AreNames, slot_of, is_listed, IsGood}
use Rattle.dcv_automaton_text.proofs.InWords.{listed_slot, good_files_in_words}
use Rattle.dcv_automaton_file.specs.File.{node_line, state_line, file_of}
use Rattle.dcv_automaton_file.specs.Laws.{HasFile}
use Rattle.dcv_automaton_file.proofs.Tables.{same_bytes}

-- the line of the node with this number
pub record GoodLine (names : List (List ℕ)) (states number : ℕ) (line : NodeLine) : Type 0 where
  pub number_is : line.number ≡ number
  pub listed : is_listed names line.name ≡ true
  pub hi : IsBelow states number line.hi
  pub lo : IsBelow states number line.lo

-- from this number on
abbrev pub GoodLines : List (List ℕ) → ℕ → ℕ → List NodeLine → Type 0
GoodLines names states number [] = Unit {0}
GoodLines names states number (line ∷ lines) = GoodLine names states number line × GoodLines names states (number + 1) lines

-- the line of the state with this number
pub record GoodRow (states nodes number : ℕ) (line : StateLine) : Type 0 where
  pub number_is : line.number ≡ number
  pub row : IsBelow states nodes line.row

abbrev pub GoodRows : ℕ → ℕ → ℕ → List StateLine → Type 0
GoodRows states nodes number [] = Unit {0}
GoodRows states nodes number (line ∷ lines) = GoodRow states nodes number line × GoodRows states nodes (number + 1) lines

-- of a state that is none
abbrev pub no_row : StateLine
no_row = record { number = 0; accepting = false; row = State 0 }

pub record IsObservable (file : AutomatonFile) : Type 0 where
  pub names : AreNames file.names
  pub lines : GoodLines file.names (length file.state_lines) 0 file.node_lines
  pub few_lines : length file.node_lines ≤ most_nodes
  pub rows : GoodRows (length file.state_lines) (length file.node_lines) 0 file.state_lines
  pub some_rows : 0 < length file.state_lines
  pub few_rows : length file.state_lines ≤ most_states

-- ---- files that keep the table rules

lines_from : (names : List (List ℕ)) (states : ℕ) (lines : List NodeLine) (number : ℕ)
    → ((k : ℕ) (d : NodeLine) → k < length lines → GoodLine names states (number + k) (get_or lines k d)) → GoodLines names states number lines
lines_from names states [] number each = tt
lines_from names states (line ∷ lines) number each = (
  subst (λ n. GoodLine names states n line) (let here : number + 0 ≡ number = omega arith in here) (each 0 line (omega arith)),
  lines_from names states lines (number + 1) (λ k d within.
      subst (λ n. GoodLine names states n (get_or lines k d)) (let same : number + suc k ≡ number + 1 + k = omega arith in same) (each (suc k) d (omega arith))),
)

rows_from : (states nodes : ℕ) (lines : List StateLine) (number : ℕ)
    → ((k : ℕ) (d : StateLine) → k < length lines → GoodRow states nodes (number + k) (get_or lines k d)) → GoodRows states nodes number lines
rows_from states nodes [] number each = tt
rows_from states nodes (line ∷ lines) number each = (
  subst (λ n. GoodRow states nodes n line) (let here : number + 0 ≡ number = omega arith in here) (each 0 line (omega arith)),
  rows_from states nodes lines (number + 1) (λ k d within.
      subst (λ n. GoodRow states nodes n (get_or lines k d)) (let same : number + suc k ≡ number + 1 + k = omega arith in same) (each (suc k) d (omega arith))),
)

module _ (file : AutomatonFile) (is : IsGoodFile file) where
  child_below : (place : ℕ) (target : Child) → IsChild file place target → IsBelow (length file.state_lines) place target
  child_below place (State number) below = omega (arith, is.all_states, below)
  child_below place (NodeAt number) earlier = earlier.earlier

  row_below : (target : Child) → IsRow file target → IsBelow (length file.state_lines) (length file.node_lines) target
  row_below (State number) below = omega (arith, is.all_states, below)
  row_below (NodeAt number) below = below

  good_line : (k : ℕ) (line : NodeLine) → IsGoodNodeLine file k line → GoodLine file.names (length file.state_lines) k line
  good_line k line good = record {
    number_is = good.number;
    listed = listed_slot file.names line.name ∙ lt-ltb (slot_of file.names line.name) (length file.names) good.variable;
    hi = child_below k line.hi good.hi;
    lo = child_below k line.lo good.lo;
  }

  good_row : (k : ℕ) (line : StateLine) → IsGoodStateLine file k line → GoodRow (length file.state_lines) (length file.node_lines) k line
  good_row k line good = record { number_is = good.number; row = row_below line.row good.row }

pub good_is_observable : (file : AutomatonFile) → IsGood file → IsObservable file
good_is_observable file good =
    let is = (good_files_in_words file).0 good in
    record {
      names = is.names;
      lines = lines_from file.names (length file.state_lines) file.node_lines 0 (λ k d within.
          subst (λ n. GoodLine file.names (length file.state_lines) n (get_or file.node_lines k d)) (let here : k ≡ 0 + k = omega arith in here)
          (good_line file is k (get_or file.node_lines k d) (is.node_lines k d within)));
      few_lines = is.nodes;
      rows = rows_from (length file.state_lines) (length file.node_lines) file.state_lines 0 (λ k d within.
          subst (λ n. GoodRow (length file.state_lines) (length file.node_lines) n (get_or file.state_lines k d)) (let here : k ≡ 0 + k = omega arith in here)
          (good_row file is k (get_or file.state_lines k d) (is.state_lines k d within)));
      some_rows = omega (arith, is.some, is.all_states);
      few_rows = omega (arith, is.states, is.all_states);
    }

-- ---- files of automata

lines_of_nodes : (names : List (List ℕ)) (states : ℕ) (all lines : List CodeNodeLine) (number : ℕ)
    → ((k : ℕ) (d : CodeNodeLine) → k < length lines → IsLine (length names) states all (number + k) (get_or lines k d))
    → GoodLines names states number (map (node_line names) (enumerate_from number lines))
lines_of_nodes names states all [] number is = tt
lines_of_nodes names states all (line ∷ lines) number is =
    let here : number + 0 ≡ number = omega arith in
    let first = subst (λ n. IsLine (length names) states all n line) here (is 0 line (omega arith)) in
    let name = get_or names line.slot [] in (
      record {
        number_is = refl;
        listed = list_any_at (bytes_eq name) names line.slot [] first.slot (same_bytes name);
        hi = first.hi_below;
        lo = first.lo_below;
      },
      lines_of_nodes names states all lines (number + 1) (λ k d within.
          subst (λ n. IsLine (length names) states all n (get_or lines k d)) (let same : number + suc k ≡ number + 1 + k = omega arith in same) (is (suc k) d (omega arith))),
    )

rows_of_states : (raw : RawValue) (states nodes : ℕ) (rows : List Child) (number : ℕ)
    → ((k : ℕ) (d : Child) → k < length rows → IsBelow states nodes (get_or rows k d))
    → GoodRows states nodes number (map (state_line raw) (enumerate_from number rows))
rows_of_states raw states nodes [] number below = tt
rows_of_states raw states nodes (row ∷ rows) number below = (
  record { number_is = refl; row = below 0 row (omega arith) },
  rows_of_states raw states nodes rows (number + 1) (λ k d within. below (suc k) d (omega arith)),
)

pub automaton_is_observable : (raw : RawValue) (names : List (List ℕ)) (access : List AccessLine) (suffixes : List SuffixLine)
    → HasFile raw names → IsObservable (file_of raw names access suffixes)
unfolding file_of
automaton_is_observable raw names access suffixes is =
    let all = node_lines_of raw in
    let facts = has_node_lines raw is.is_raw is.auto.nodes (numbered raw.arena raw.rows) refl in
    let reduced = facts.reduced in
    let lines = map (node_line names) (enumerate_from 0 all.lines) in
    let rows = map (state_line raw) (enumerate_from 0 all.rows) in
    let count : length lines ≡ length all.lines = length-map (enumerate_from 0 all.lines) (node_line names) ∙ length-enumerate_from 0 all.lines in
    let states : length rows ≡ length raw.rows = length-map (enumerate_from 0 all.rows) (state_line raw) ∙ length-enumerate_from 0 all.rows ∙ reduced.count in
    let good_lines = lines_of_nodes names (length raw.rows) all.lines all.lines 0 (λ k d within.
    let line = get_or all.lines k d in
    subst (λ n. IsLine (length names) (length raw.rows) all.lines n line) (let here : k ≡ 0 + k = omega arith in here)
    (subst (λ n. IsLine n (length raw.rows) all.lines k line) (sym is.slots) (reduced.lines k line (slice_get-get_or all.lines k d within)))) in
    let good_rows = rows_of_states raw (length raw.rows) (length all.lines) all.rows 0 (λ k d within. reduced.rows k d within) in
    record {
      names = is.are_names;
      lines = subst (λ n. GoodLines names n 0 lines) (sym states) good_lines;
      few_lines = omega (arith, count, facts.count, is.nodes);
      rows = subst (λ n. GoodRows n (length lines) 0 rows) (sym states) (subst (λ n. GoodRows (length raw.rows) n 0 rows) (sym count) good_rows);
      some_rows = omega (arith, states, is.is_raw.start);
      few_rows = omega (arith, states, is.states);
    }
