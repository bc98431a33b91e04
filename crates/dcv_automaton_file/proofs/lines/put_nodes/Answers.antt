use Rattle.std.proofs.Common.{◌≡◌, ◌<◌, length, [], sym, ap, get_or, ◌∙◌, arith}
use Rattle.std.proofs.lemmas.List.{get_or-map, take_all}
use Rattle.dcv_syntax.specs.declared.names.Name.{Name}
use Rattle.dcv_language.specs.declared.child.Child.TheVariants.{State}
use Rattle.dcv_dfa.specs.declared.node_lines.NodeLine.{NodeLine}
use Rattle.dcv_io.proofs.Putting.{puts_further, puts_nothing, puts_same}
use Rattle.dcv_automaton_file.specs.File.{texts_of, node_line}
use Rattle.dcv_automaton_file.specs.Lines.{node_text}
use Rattle.dcv_automaton_file.proofs.PutLines.{lines_text, line_more}
use Rattle.dcv_automaton_file.proofs.lines.put_nodes.Goals as goal

pub loop-number-init : goal.loop-number-init
loop-number-init g c = puts_nothing _

pub loop-number-preserved : goal.loop-number-preserved
loop-number-preserved g c =
    let names = c.args.names.now in
    let number = c.loop-number.number in
    let none : NodeLine = record { slot = 0; hi = State 0; lo = State 0 } in
    let line = get_or c.args.lines.now number none in
    let slot : c.from.result ≡ line.slot = c.from.ensures in
    let below : line.slot < length names = c.requires number none c.loop-number-test.true in
    let name : c.as_bytes-name.result.now ≡ get_or (texts_of names) line.slot [] =
    c.as_bytes-name.ensures
    ∙ sym (get_or-map (λ (name : Name). name.text) names c.from.result c.index-names-from.result [] (omega arith))
    ∙ ap (λ at. get_or (texts_of names) at []) slot in
    puts_further _ _ _ _ _ _ c.loop-number.invariant
    (puts_same _ _ _ _ c.put_node.ensures
    (ap (λ text. node_text c.args.layout.now (record { number = number; name = text; hi = line.hi; lo = line.lo })) name))
    (line_more (node_text c.args.layout.now) (node_line (texts_of names)) c.args.lines.now number none c.loop-number-test.true)

pub returns : goal.returns
returns g c =
    puts_same _ _ _ _ c.loop-number.invariant
    (ap (lines_text (node_text c.args.layout.now) (node_line (texts_of c.args.names.now))) (take_all c.loop-number.number c.args.lines.now c.loop-number-test.false))
