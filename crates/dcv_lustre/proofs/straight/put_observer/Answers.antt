use Rattle.std.proofs.Common.{◌≡◌, ◌<◌, List, None, length, map, sym, ap, subst, ◌∙◌, arith}
use Rattle.std.specs.List.{All, enumerate_from}
use Rattle.dcv_dfa.specs.declared.node_lines.NodeLine.{NodeLine}
use Rattle.dcv_dfa.specs.NodeLines.{node_lines_of}
use Rattle.dcv_io.proofs.Putting.{puts_both, puts_same}
use Rattle.dcv_automaton_file.specs.File.{texts_of, node_line, state_lines, file_of}
use Rattle.dcv_automaton_file.proofs.Rows.{are_lined}
use Rattle.dcv_automaton_file.proofs.PutLines.{lines_seen}
use Rattle.dcv_lustre.specs.Layout.{text_in, equation_line, text_of}
use Rattle.dcv_lustre.specs.Observer.{node_equation, observer_of}
use Rattle.dcv_lustre.proofs.ObserverText.{locals_text, node_is, text_is}
use Rattle.dcv_lustre.proofs.straight.put_observer.Goals as goal

pub overflow_cast-lines : goal.overflow_cast-lines
overflow_cast-lines g c =
    let is = are_lined c.args.auto.now c.args.nodes.now c.states-states.ensures.raw c.states-states.ensures.auto c.requires.nodes c.requires.lines in
    omega (arith, ap length c.lines-lines.ensures, is.count)

pub put_nodes-requires : goal.put_nodes-requires
put_nodes-requires g c = λ k d within.
    let is = are_lined c.args.auto.now c.args.nodes.now c.states-states.ensures.raw c.states-states.ensures.auto c.requires.nodes c.requires.lines in
    let slots = subst (λ (lines : List NodeLine). All (λ (line : NodeLine). line.slot < c.args.auto.now.arena.slots) lines) (sym c.lines-lines.ensures) is.slots_below in
    omega (arith, slots k d within, c.requires.slots)

pub put_choice-requires : goal.put_choice-requires
put_choice-requires g c =
    let is = are_lined c.args.auto.now c.args.nodes.now c.states-states.ensures.raw c.states-states.ensures.auto c.requires.nodes c.requires.lines in
    omega (arith, ap length c.rows.ensures, is.row_count, c.states-states.ensures.states, c.states-states.ensures.some)

pub returns : goal.returns
unfolding file_of
returns g c = λ access suffixes.
    let raw = c.args.auto.now in
    let all = c.args.nodes.now in
    let is = are_lined raw all c.states-states.ensures.raw c.states-states.ensures.auto c.requires.nodes c.requires.lines in
    let names = texts_of c.args.names.now in
    let lines = c.lines-lines.result.now in
    let rows = c.rows.result.now in
    let numbered = map (node_line names) (enumerate_from 0 lines) in
    let same : record { lines = lines; rows = rows } ≡ node_lines_of raw = (λ i. record { lines = c.lines-lines.ensures i; rows = c.rows.ensures i }) ∙ c.requires.lines in
    puts_same _ _ _ _
    (puts_both _ _ _ _ _ c.put_opening.ensures (puts_both _ _ _ _ _ c.put_inputs.ensures
    (puts_both _ _ _ _ _ c.put_pieces.ensures (puts_both _ _ _ _ _ c.put_pieces-2.ensures (puts_both _ _ _ _ _ (puts_same _ _ _ _ c.put_numbers.ensures (locals_text names lines))
    (puts_both _ _ _ _ _ c.put.ensures (puts_both _ _ _ _ _ c.put_state.ensures (puts_both _ _ _ _ _ (puts_same _ _ _ _ c.put_nodes.ensures (lines_seen _ node_equation (λ equation. text_in (equation_line equation)) node_is numbered))
    (puts_both _ _ _ _ _ c.put_pieces-3.ensures (puts_both _ _ _ _ _ (c.put_choice.ensures raw)
    (puts_both _ _ _ _ _ c.put_pieces-4.ensures (puts_both _ _ _ _ _ (c.put_tests.ensures rows (ap length c.rows.ensures ∙ is.row_count)) c.put_pieces-5.ensures))))))))))))
    (text_is _ ∙ (λ i. text_of (observer_of (record {
      names = names;
      states = length raw.rows;
      node_lines = map (node_line names) (enumerate_from 0 (same i).lines);
      state_lines = state_lines raw (same i).rows;
      access_lines = access;
      suffix_lines = suffixes;
      steps = None;
    }))))
