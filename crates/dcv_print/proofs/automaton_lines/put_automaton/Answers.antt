use Rattle.std.proofs.Common.{ap, ◌∙◌, ◌∷◌, [], ◌++◌}
use Rattle.std.specs.Prelude.{codes}
use Rattle.std.specs.Fmt.{decimal}
use Rattle.dcv_dfa.specs.NodeLines.{NodeLinesValue}
use Rattle.dcv_automaton_text.specs.Spelled.{name_words, node_words, state_words, access_words, suffix_words, spelled_line}
use Rattle.dcv_print.specs.Printed.{texts_of, node_line, state_line, access_line, suffix_line}
use Rattle.dcv_print.specs.Pushed.{spelled_lines}
use Rattle.dcv_print.proofs.Spellings.{text_joined}
use Rattle.dcv_io.proofs.Putting.{puts_both, puts_same}
use Rattle.dcv_print.proofs.automaton_lines.put_automaton.Goals as goal

pub returns : goal.returns
returns g c =
    let raw = c.args.auto.now in
    let names = texts_of c.args.names.now in
    let proof = c.args.proof.now in
    let all = c.requires.nodes in
    puts_same _ _ _ _
    (puts_both _ _ _ _ _ (puts_both _ _ _ _ _ (puts_both _ _ _ _ _ (puts_both _ _ _ _ _ (puts_both _ _ _ _ _ (puts_both _ _ _ _ _ c.put_head.ensures c.put_nodes.ensures) c.put_states.ensures) c.put_entries.ensures) c.put_entries-2.ensures) c.put_steps.ensures) c.put.ensures)
    (text_joined raw names proof.access proof.suffixes c.args.counts.now _ _ _ _ _
    (ap (λ states. spelled_line (codes "automaton" ∷ codes "2" ∷ []) ++ (spelled_line (codes "variables" ∷ name_words names) ++ spelled_line (codes "states" ∷ decimal states ∷ []))) c.states.ensures.states)
    (ap (λ lines. spelled_lines (λ numbered. node_words (node_line names numbered)) lines) (c.lines.ensures ∙ ap (λ (every : NodeLinesValue). every.lines) all))
    (ap (λ rows. spelled_lines (λ numbered. state_words (state_line raw numbered)) rows) (c.rows.ensures ∙ ap (λ (every : NodeLinesValue). every.rows) all))
    (ap (λ access. spelled_lines (λ numbered. access_words (access_line numbered)) access) c.access.ensures)
    (ap (λ suffixes. spelled_lines (λ numbered. suffix_words (suffix_line numbered)) suffixes) c.suffixes.ensures))
