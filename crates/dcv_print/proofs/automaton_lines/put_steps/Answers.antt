use Rattle.std.proofs.Common.{◌++◌, ap, sym, append-nil, arith}
use Rattle.std.proofs.lemmas.Grind.{common_steps}
use Rattle.dcv_language.specs.declared.count.Count.{Count}
use Rattle.dcv_automaton_text.specs.Spelled.{step_words, steps_words, spelled_line}
use Rattle.dcv_automaton_read.specs.File.{step_line, step_part}
use Rattle.dcv_print.proofs.Spellings.{one_behind_more, all_lines}
use Rattle.dcv_io.proofs.Putting.{puts_further, puts_same}
use Rattle.dcv_print.proofs.automaton_lines.put_steps.Goals as goal

pub loop-number-preserved : goal.loop-number-preserved
loop-number-preserved g c =
    let none : Count = record { at = 0; states = 0; nodes = 0 } in
    puts_further _ _ _ _ _ _ c.loop-number.invariant c.put_step.ensures
    (one_behind_more (spelled_line (steps_words (step_part c.args.counts.now))) (λ numbered. step_words (step_line numbered)) c.args.counts.now c.loop-number.number none c.loop-number-test.true)

pub loop-number-init : goal.loop-number-init
loop-number-init g c = puts_same _ _ _ _ c.put_heading.ensures (sym (append-nil (spelled_line (steps_words (step_part c.args.counts.now)))))

pub returns : goal.returns
returns g c =
    puts_same _ _ _ _ c.loop-number.invariant
    (ap (λ lines. spelled_line (steps_words (step_part c.args.counts.now)) ++ lines)
    (all_lines (λ numbered. step_words (step_line numbered)) c.args.counts.now c.loop-number.number (grind (arith, common_steps))))
