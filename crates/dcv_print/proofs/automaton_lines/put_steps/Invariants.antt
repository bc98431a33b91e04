use Rattle.std.proofs.Common.{take, ◌++◌}
use Rattle.dcv_automaton_text.specs.Spelled.{step_words, steps_words, spelled_line}
use Rattle.dcv_automaton_read.specs.File.{step_line, step_part}
use Rattle.dcv_print.specs.Pushed.{spelled_lines}
use Rattle.dcv_io.specs.Putting.{Puts}
use Rattle.dcv_print.proofs.automaton_lines.put_steps.Given as goal

-- their number is put, and the lines so far
abbrev pub invariant-loop-number : goal.invariant-loop-number
invariant-loop-number g l =
    Puts (g.T.Target.standing l.fn.target) (g.T.Target.standing l.target)
    (spelled_line (steps_words (step_part l.counts)) ++ spelled_lines (λ numbered. step_words (step_line numbered)) (take l.number l.counts))
