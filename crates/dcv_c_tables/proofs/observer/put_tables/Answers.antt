use Rattle.std.proofs.Common.{◌≡◌, ◌<◌, ◌+◌, List, length, sym, ap, subst, ◌∙◌, true, false, not, ◌==◌}
use Rattle.std.specs.List.{All}
use Rattle.std.proofs.lemmas.List.{length-map}
use Rattle.dcv_syntax.specs.declared.names.Name.{Name}
use Rattle.dcv_dfa.specs.declared.node_lines.NodeLine.{NodeLine}
use Rattle.dcv_dfa.specs.NodeLines.{NodeLinesValue}
use Rattle.dcv_io.proofs.Putting.{puts_both, puts_same}
use Rattle.dcv_automaton_file.specs.File.{texts_of}
use Rattle.dcv_automaton_file.proofs.Rows.{are_lined}
use Rattle.dcv_c_tables.specs.Layout.{type_for}
use Rattle.dcv_c_tables.proofs.Text.{put_is, some_there, text_is}
use Rattle.dcv_c_tables.proofs.observer.put_tables.Goals as goal

pub returns : goal.returns
returns g c = λ access suffixes.
    let raw = c.args.auto.now in
    let names = texts_of c.args.names.now in
    let lines = c.lines-lines.result.now in
    let rows = c.rows.result.now in
    let some = not c.is_empty.result in
    let is = are_lined raw c.args.nodes.now c.states-states.ensures.raw c.states-states.ensures.auto c.requires.nodes c.requires.lines in
    let states = puts_both _ _ _ _ _ c.put_array.ensures c.put_accept_array.ensures in
    let step = puts_both _ _ _ _ _ c.put_names.ensures (puts_both _ _ _ _ _ c.put.ensures c.put_body.ensures) in
    let same : lines ≡ _ = c.lines-lines.ensures ∙ ap (λ (all : NodeLinesValue). all.lines) c.requires.lines in
    let all : rows ≡ _ = c.rows.ensures ∙ ap (λ (all : NodeLinesValue). all.rows) c.requires.lines in
    let many : length rows ≡ length raw.rows = ap length c.rows.ensures ∙ is.row_count in
    let slots : All (λ (line : NodeLine). line.slot < length names) lines =
    subst (λ n. All (λ (line : NodeLine). line.slot < n) lines) (sym (length-map c.args.names.now (λ (name : Name). name.text) ∙ c.requires.slots))
    (subst (λ (lines : List NodeLine). All (λ (line : NodeLine). line.slot < raw.arena.slots) lines) (sym c.lines-lines.ensures) is.slots_below) in
    let none : length lines ≡ 0 → some ≡ false = λ none. ap not (c.is_empty.ensures ∙ ap (λ n. n == 0) none) in
    let there : (length lines ≡ 0 → ⊥) → some ≡ true = λ there. ap not c.is_empty.ensures ∙ some_there (length lines) there in
    puts_same _ _ _ _
    (puts_both _ _ _ _ _ c.put_counts.ensures (puts_both _ _ _ _ _ c.put_node_arrays.ensures (puts_both _ _ _ _ _ states (puts_both _ _ _ _ _ c.put_reset.ensures step))))
    (put_is raw names lines rows c.integer-integer.result.now c.states-states.result (length c.args.names.now) some c.states-states.ensures.states (c.integer-integer.ensures ∙ ap (λ n. type_for (n + length lines)) c.from.ensures)
    (sym (length-map c.args.names.now (λ (name : Name). name.text)))
    ∙ text_is raw names lines rows some access suffixes same all many c.requires.names.differ slots none there)
