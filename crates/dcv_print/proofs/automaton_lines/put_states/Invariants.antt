use Rattle.std.proofs.Common.{take}
use Rattle.dcv_automaton_text.specs.Spelled.{state_words}
use Rattle.dcv_print.specs.Printed.{state_line}
use Rattle.dcv_print.specs.Pushed.{spelled_lines}
use Rattle.dcv_io.specs.Putting.{Puts}
use Rattle.dcv_print.proofs.automaton_lines.put_states.Given as goal

-- the lines so far are put
abbrev pub invariant-loop-state : goal.invariant-loop-state
invariant-loop-state g l = Puts (g.T.Target.standing l.fn.target) (g.T.Target.standing l.target) (spelled_lines (λ numbered. state_words (state_line l.fn.auto numbered)) (take l.state l.rows))
