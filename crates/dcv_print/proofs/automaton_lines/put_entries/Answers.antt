use Rattle.std.proofs.Common.{◌∷◌, sym, ap, ◌∙◌, arith}
use Rattle.std.proofs.lemmas.Grind.{common_steps}
use Rattle.std.specs.Fmt.{decimal}
use Rattle.dcv_automaton_text.specs.Spelled.{spelled_line}
use Rattle.dcv_print.proofs.Spellings.{line_is_spaced, one_line_more, all_lines}
use Rattle.dcv_io.proofs.Putting.{puts_both, puts_further, puts_nothing, puts_same}
use Rattle.dcv_print.proofs.automaton_lines.put_entries.Goals as goal

pub loop-number-preserved : goal.loop-number-preserved
loop-number-preserved g c =
    let number = c.loop-number.number in
    let word = c.args.word.now in
    let entry = c.index-entries-number.result in
    puts_further _ _ _ _ _ _ c.loop-number.invariant (puts_both _ _ _ _ _ c.put.ensures c.put_entry.ensures)
    (one_line_more (λ numbered. word ∷ decimal numbered.0 ∷ g.E.Entry.words numbered.1) c.args.entries.now number entry _ c.loop-number-test.true
    (sym (line_is_spaced word (decimal number ∷ g.E.Entry.words entry)) ∙ ap (λ one. spelled_line (word ∷ decimal number ∷ g.E.Entry.words one)) c.index-entries-number.is))

pub loop-number-init : goal.loop-number-init
loop-number-init g c = puts_nothing _

pub returns : goal.returns
returns g c =
    puts_same _ _ _ _ c.loop-number.invariant
    (all_lines (λ numbered. c.args.word.now ∷ decimal numbered.0 ∷ g.E.Entry.words numbered.1) c.args.entries.now c.loop-number.number (grind (arith, common_steps)))
