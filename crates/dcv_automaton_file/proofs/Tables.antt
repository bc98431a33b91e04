-- The file of an automaton stands for the automaton's table.
use Rattle.std.proofs.Common.{◌≡◌, ◌≢◌, ℕ, zero, suc, ◌+◌, ◌<◌, Bool, true, false, not, cond, List, [], ◌∷◌, ◌++◌, length, map, fold, get_or, refl}
use Rattle.std.proofs.Common.{sym, ap, ◌∙◌, arith}
use Rattle.std.specs.Prelude.{bytes_eq}
use Rattle.std.specs.List.{All, AllPairs, enumerate_from}
use Rattle.std.proofs.lemmas.List.{length-map, get_or-map, same_lists}
use Rattle.std.proofs.lemmas.List.Folds.{fold-map}
use Rattle.std.proofs.lemmas.List.FromFn.{length-enumerate_from, get_or-enumerate_from}
use Rattle.std.proofs.lemmas.Option.{slice_get-get_or}
use Rattle.std.proofs.lemmas.Slice.Eq.{bytes_eq-Decides}
use Rattle.dcv_word.specs.Letter.{letters_of_width}
use Rattle.dcv_arena.specs.Arena.{table_of as arena_table}
use Rattle.dcv_language.specs.declared.child.Child.{Child}
use Rattle.dcv_language.specs.declared.child.Child.TheVariants.{State, Node}
use Rattle.dcv_dfa.specs.declared.node_lines.NodeLine.{NodeLine}
use Rattle.dcv_dfa.specs.Auto.{IsAuto, table_of_states}
use Rattle.dcv_dfa.specs.Laws.{LinesLeadAsTheRows}
use Rattle.dcv_dfa.specs.NodeLines.{numbered, node_lines_of, state_at, states_at, AreReduced}
use Rattle.dcv_dfa.specs.Raw.{RawValue, IsRaw}
use Rattle.dcv_dfa.proofs.Reduced.{has_node_lines}
use Rattle.dcv_dfa.proofs.States.{table_has_the_states, state-at}
use Rattle.dcv_automaton_text.specs.File.{NodeLine as PlainNodeLine}
use Rattle.dcv_automaton_text.specs.Meaning.{state_at as plain_state_at, states_at as plain_states_at, state_of as plain_state_of, table_of}
use Rattle.dcv_automaton_text.specs.Rules.{slot_of}
use Rattle.dcv_automaton_file.specs.File.{node_line, state_line, file_of}
use Rattle.dcv_automaton_file.specs.Laws.{FileHasTheTable}

-- ---- names

pub same_bytes : (name : List ℕ) → bytes_eq name name ≡ true
same_bytes name = (bytes_eq-Decides name name).1 refl

pub other_bytes : (name other : List ℕ) → name ≢ other → bytes_eq name other ≡ false
other_bytes name other differ = by_cases (bytes_eq name other) refl
  where
    by_cases : (same : Bool) → bytes_eq name other ≡ same → same ≡ false
    by_cases true e = absurd (differ ((bytes_eq-Decides name other).0 e))
    by_cases false e = refl

-- each name stands at its slot
pub slot_at : (names : List (List ℕ)) (slot : ℕ) → AllPairs ◌≢◌ names → slot < length names → slot_of names (get_or names slot []) ≡ slot
slot_at [] slot differ below = absurd (omega arith)
slot_at (name ∷ names) zero differ below = ap (λ same. cond (not same) (1 + slot_of names name) 0) (same_bytes name)
slot_at (name ∷ names) (suc slot) differ below =
    let later = get_or names slot [] in
    let other : bytes_eq later name ≡ false = other_bytes later name (λ same. differ 0 (suc slot) [] (omega arith) below (sym same)) in
    let rest = slot_at names slot (λ i j d before within. differ (suc i) (suc j) d (omega arith) (omega arith)) (omega arith) in
    ap (λ same. cond (not same) (1 + slot_of names later) 0) other ∙ omega (arith, rest)

-- ---- lines

pub same_state : (states : List ℕ) (child : Child) → plain_state_at states child ≡ state_at states child
same_state states (State state) = refl
same_state states (Node number) = refl

same_choice : (states : List ℕ) (side : Bool) (hi lo : Child)
    → plain_state_at states (cond side hi lo) ≡ state_at states (cond side hi lo)
same_choice states true hi lo = same_state states hi
same_choice states false hi lo = same_state states lo

-- a file's line, by the variable's place
abbrev pub line_for : List (List ℕ) → PlainNodeLine → NodeLine
line_for names line = record { slot = slot_of names line.name; hi = line.hi; lo = line.lo }

pub same_states : (names : List (List ℕ)) (letter : List Bool) (lines : List PlainNodeLine) → plain_states_at names letter lines ≡ states_at letter (map (line_for names) lines)
unfolding plain_states_at states_at
same_states names letter lines =
    (λ i. fold (λ states line. states ++ same_choice states (get_or letter (slot_of names line.name) false) line.hi line.lo i ∷ []) [] lines)
    ∙ sym (fold-map (λ states (line : NodeLine). states ++ state_at states (cond (get_or letter line.slot false) line.hi line.lo) ∷ []) (line_for names) [] lines)

pub lines_back : (names : List (List ℕ)) → AllPairs ◌≢◌ names → (lines : List NodeLine) (first : ℕ) → All (λ (line : NodeLine). line.slot < length names) lines
    → map (line_for names) (map (node_line names) (enumerate_from first lines)) ≡ lines
lines_back names differ [] first below = refl
lines_back names differ (line ∷ lines) first below =
    let slot = slot_at names line.slot differ (below 0 line (omega arith)) in
    let rest = lines_back names differ lines (first + 1) (λ k d within. below (suc k) d (omega arith)) in
    λ i. record { slot = slot i; hi = line.hi; lo = line.lo } ∷ rest i

-- ---- rows

pub reduced : (raw : RawValue) → IsRaw raw → IsAuto raw → AreReduced raw.arena.slots (length raw.rows) (node_lines_of raw)
reduced raw is auto = (has_node_lines raw is auto.nodes (numbered raw.arena raw.rows) refl).reduced

pub slots_below : (raw : RawValue) (count : ℕ) → AreReduced raw.arena.slots (length raw.rows) (node_lines_of raw) → count ≡ raw.arena.slots
    → All (λ (line : NodeLine). line.slot < count) (node_lines_of raw).lines
slots_below raw count is same number d within =
    let lines = (node_lines_of raw).lines in
    let line = is.lines number (get_or lines number d) (slice_get-get_or lines number d within) in
    let slot = line.slot in
    omega arith

pub file_table : LinesLeadAsTheRows → FileHasTheTable
unfolding table_of file_of arena_table
file_table lead raw names access suffixes is =
    let all = node_lines_of raw in
    let file = file_of raw names access suffixes in
    let lines_reduced = reduced raw is.is_raw is.auto in
    let below = slots_below raw (length names) lines_reduced is.slots in
    let numbered_rows = enumerate_from 0 all.rows in
    let states = map (state_line raw) numbered_rows in
    let size = length-map states (plain_state_of file) ∙ length-map numbered_rows (state_line raw) ∙ length-enumerate_from 0 all.rows ∙ lines_reduced.count in
    same_lists (table_of file) (table_of_states raw) (size ∙ sym (table_has_the_states raw)) (λ k d within.
    let here : k < length raw.rows = omega (arith, size) in
    let d_line = state_line raw (0, State 0) in
    let at = get_or-map (plain_state_of file) states k d_line d (omega (arith, length-map states (plain_state_of file))) in
    let line = get_or-map (state_line raw) numbered_rows k (0, State 0) d_line (omega (arith, length-enumerate_from 0 all.rows, lines_reduced.count)) in
    let number = get_or-enumerate_from 0 all.rows k (0, State 0) (omega (arith, lines_reduced.count)) in
    let place : 0 + k ≡ k = omega arith in
    let row = get_or all.rows k (State 0) in
    let same = λ (letter : List Bool).
    ap (λ values. plain_state_at values row) (same_states names letter file.node_lines ∙ ap (states_at letter) (lines_back names is.are_names.differ all.lines 0 below))
    ∙ same_state (states_at letter all.lines) row
    ∙ lead raw k letter is.is_raw here in
    at
    ∙ ap (plain_state_of file) (line ∙ ap (state_line raw) (number ∙ ap (λ at. (at, row)) place))
    ∙ (λ i. record { accepting = get_or raw.accepting k false; row = map (λ letter. same letter i) (letters_of_width (is.slots i)) })
    ∙ sym (state-at raw k d here))
