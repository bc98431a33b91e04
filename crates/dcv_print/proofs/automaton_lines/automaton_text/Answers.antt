use Rattle.dcv_io.proofs.Putting.{text_taken}
use Rattle.dcv_print.proofs.automaton_lines.automaton_text.Goals as goal

pub returns : goal.returns
returns c =
    text_taken _ _ c.put_automaton.new.target.bytes c.put_automaton.new.target.failed c.finish.result _ c.new-text.ensures.bytes c.new-text.ensures.failed c.put_automaton.ensures
    c.finish.ensures.failed c.finish.ensures.all
