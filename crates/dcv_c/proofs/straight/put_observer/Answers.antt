use Rattle.std.proofs.Common.{◌<◌, List, length, sym, ap, subst, ◌∙◌, arith}
use Rattle.std.specs.List.{All}
use Rattle.dcv_dfa.specs.declared.node_lines.NodeLine.{NodeLine}
use Rattle.dcv_dfa.specs.NodeLines.{NodeLinesValue}
use Rattle.dcv_io.proofs.Putting.{puts_both, puts_same}
use Rattle.dcv_automaton_file.specs.File.{texts_of}
use Rattle.dcv_automaton_file.proofs.Rows.{are_lined}
use Rattle.dcv_c.proofs.ObserverText.{text_is}
use Rattle.dcv_c.proofs.straight.put_observer.Goals as goal

pub overflow_cast-lines : goal.overflow_cast-lines
overflow_cast-lines g c =
    let is = are_lined c.args.auto.now c.args.nodes.now c.states-states.ensures.raw c.states-states.ensures.auto c.requires.nodes c.requires.lines in
    omega (arith, ap length c.lines-lines.ensures, is.count)

pub put_nodes-requires : goal.put_nodes-requires
put_nodes-requires g c = λ k d within.
    let is = are_lined c.args.auto.now c.args.nodes.now c.states-states.ensures.raw c.states-states.ensures.auto c.requires.nodes c.requires.lines in
    let slots = subst (λ (lines : List NodeLine). All (λ (line : NodeLine). line.slot < c.args.auto.now.arena.slots) lines) (sym c.lines-lines.ensures) is.slots_below in
    omega (arith, slots k d within, c.requires.slots)

pub returns : goal.returns
returns g c = λ access suffixes.
    let raw = c.args.auto.now in
    let is = are_lined raw c.args.nodes.now c.states-states.ensures.raw c.states-states.ensures.auto c.requires.nodes c.requires.lines in
    let rows = c.rows.result.now in
    let reset = puts_both _ _ _ _ _ c.put_head.ensures (puts_both _ _ _ _ _ c.put_set.ensures c.put.ensures) in
    let head = puts_both _ _ _ _ _ c.put_beginning.ensures (puts_both _ _ _ _ _ c.put_names.ensures c.put-2.ensures) in
    let locals = puts_both _ _ _ _ _ (puts_both _ _ _ _ _ c.put_local.ensures c.put_numbers.ensures) c.put-3.ensures in
    let statements =
    puts_both _ _ _ _ _ c.put_set-2.ensures (puts_both _ _ _ _ _ c.put_nodes.ensures (puts_both _ _ _ _ _ (c.put_rows.ensures raw) c.put_stored.ensures)) in
    let end =
    puts_both _ _ _ _ _ c.put_pieces.ensures (puts_both _ _ _ _ _ (c.put_returned.ensures rows (ap length c.rows.ensures ∙ is.row_count)) c.put_pieces-2.ensures) in
    puts_same _ _ _ _
    (puts_both _ _ _ _ _ c.put_static.ensures (puts_both _ _ _ _ _ reset (puts_both _ _ _ _ _ head (puts_both _ _ _ _ _ locals (puts_both _ _ _ _ _ statements end)))))
    (text_is raw (texts_of c.args.names.now) c.lines-lines.result.now rows access suffixes
    (c.lines-lines.ensures ∙ ap (λ (all : NodeLinesValue). all.lines) c.requires.lines) (c.rows.ensures ∙ ap (λ (all : NodeLinesValue). all.rows) c.requires.lines))
