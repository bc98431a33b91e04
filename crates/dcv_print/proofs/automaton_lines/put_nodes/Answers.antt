use Rattle.std.proofs.Common.{◌≡◌, ◌<◌, length, [], sym, ap, get_or, ◌∙◌, arith}
use Rattle.std.proofs.lemmas.Grind.{common_steps}
use Rattle.std.proofs.lemmas.List.{get_or-map}
use Rattle.dcv_syntax.specs.declared.names.Name.{Name}
use Rattle.dcv_language.specs.declared.child.Child.TheVariants.{State}
use Rattle.dcv_dfa.specs.declared.node_lines.NodeLine.{NodeLine}
use Rattle.dcv_automaton_text.specs.Spelled.{node_words, spelled_line}
use Rattle.dcv_print.specs.Printed.{texts_of, node_line}
use Rattle.dcv_print.proofs.Spellings.{one_line_more, all_lines}
use Rattle.dcv_io.proofs.Putting.{puts_further, puts_nothing, puts_same}
use Rattle.dcv_print.proofs.automaton_lines.put_nodes.Goals as goal

pub loop-number-preserved : goal.loop-number-preserved
loop-number-preserved g c =
    let names = c.args.names.now in
    let number = c.loop-number.number in
    let none : NodeLine = record { slot = 0; hi = State 0; lo = State 0 } in
    let node = get_or c.args.nodes.now number none in
    let slot : c.from.result ≡ node.slot = c.from.ensures in
    let below : node.slot < length names = c.requires number none c.loop-number-test.true in
    let name : c.as_bytes-name.result.now ≡ get_or (texts_of names) node.slot [] =
    c.as_bytes-name.ensures
    ∙ sym (get_or-map (λ (name : Name). name.text) names c.from.result c.index-names-from.result [] (omega arith))
    ∙ ap (λ at. get_or (texts_of names) at []) slot in
    puts_further _ _ _ _ _ _ c.loop-number.invariant c.put_node.ensures
    (one_line_more (λ numbered. node_words (node_line (texts_of names) numbered)) c.args.nodes.now number none _ c.loop-number-test.true
    (ap (λ text. spelled_line (node_words (record { number = number; name = text; hi = node.hi; lo = node.lo }))) name))

pub loop-number-init : goal.loop-number-init
loop-number-init g c = puts_nothing _

pub returns : goal.returns
returns g c =
    puts_same _ _ _ _ c.loop-number.invariant
    (all_lines (λ numbered. node_words (node_line (texts_of c.args.names.now) numbered)) c.args.nodes.now c.loop-number.number (grind (arith, common_steps)))
