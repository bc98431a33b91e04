use Rattle.std.proofs.Common.{ap, get_or, arith}
use Rattle.std.proofs.lemmas.Grind.{common_steps}
use Rattle.dcv_language.specs.declared.child.Child.TheVariants.{State}
use Rattle.dcv_automaton_text.specs.Spelled.{state_words, spelled_line}
use Rattle.dcv_print.specs.Printed.{state_line}
use Rattle.dcv_print.proofs.Spellings.{one_line_more, all_lines}
use Rattle.dcv_io.proofs.Putting.{puts_further, puts_nothing, puts_same}
use Rattle.dcv_print.proofs.automaton_lines.put_states.Goals as goal

pub loop-state-preserved : goal.loop-state-preserved
loop-state-preserved g c =
    let state = c.loop-state.state in
    let row = get_or c.args.rows.now state (State 0) in
    puts_further _ _ _ _ _ _ c.loop-state.invariant c.put_state.ensures
    (one_line_more (λ numbered. state_words (state_line c.args.auto.now numbered)) c.args.rows.now state (State 0) _ (omega arith)
    (ap (λ flag. spelled_line (state_words (record { number = state; accepting = flag; row = row }))) c.accepting.ensures))

pub loop-state-init : goal.loop-state-init
loop-state-init g c = puts_nothing _

pub returns : goal.returns
returns g c =
    puts_same _ _ _ _ c.loop-state.invariant
    (all_lines (λ numbered. state_words (state_line c.args.auto.now numbered)) c.args.rows.now c.loop-state.state (grind (arith, common_steps)))
