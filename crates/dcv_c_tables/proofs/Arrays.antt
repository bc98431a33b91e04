-- What is put of an automaton, array by array, is the text of its tables.
use Rattle.std.proofs.Common.{◌≡◌, ℕ, List, [], ◌∷◌, length, map, refl, sym}
use Rattle.std.proofs.lemmas.List.Folds.{flat_map-map}
use Rattle.dcv_dfa.specs.declared.node_lines.NodeLine.{NodeLine as CodeNodeLine}
use Rattle.dcv_observer.specs.Layouts.{Word, ◌<>◌, Each}
use Rattle.dcv_c_tables.specs.Unit.{TableNode}
use Rattle.dcv_c_tables.specs.Layout.{text_in, number_line, variable_line, high_line, low_line, array_lines, char_type, variable_head, high_head, low_head, node_arrays}
use Rattle.dcv_c_tables.specs.Observer.{place_of, seen_node}

abbrev pub nodes_put : List ℕ → ℕ → List CodeNodeLine → List ℕ
nodes_put integer states lines =
    text_in (array_lines char_type variable_head (Each (λ (line : CodeNodeLine). number_line line.slot) lines)
    <> array_lines integer high_head (Each (λ (line : CodeNodeLine). number_line (place_of states line.hi)) lines)
    <> array_lines integer low_head (Each (λ (line : CodeNodeLine). number_line (place_of states line.lo)) lines))

pub nodes_are : (integer : List ℕ) (states : ℕ) (lines : List CodeNodeLine) → (length lines ≡ 0 → ⊥) → nodes_put integer states lines ≡ text_in (node_arrays integer (map (seen_node states) lines))
nodes_are integer states [] some = absurd (some refl)
nodes_are integer states (line ∷ lines) some =
    let see = seen_node states in
    let all = line ∷ lines in
    let variables = sym (flat_map-map (λ (node : TableNode). text_in (variable_line node)) see all) in
    let highs = sym (flat_map-map (λ (node : TableNode). text_in (high_line node)) see all) in
    let lows = sym (flat_map-map (λ (node : TableNode). text_in (low_line node)) see all) in
    λ i. text_in (array_lines char_type variable_head (Word (variables i)) <> array_lines integer high_head (Word (highs i)) <> array_lines integer low_head (Word (lows i)))
