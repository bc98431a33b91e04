use Rattle.std.proofs.Common.{take}
use Rattle.dcv_automaton_text.specs.Spelled.{node_words}
use Rattle.dcv_print.specs.Printed.{texts_of, node_line}
use Rattle.dcv_print.specs.Pushed.{spelled_lines}
use Rattle.dcv_io.specs.Putting.{Puts}
use Rattle.dcv_print.proofs.automaton_lines.put_nodes.Given as goal

-- the lines so far are put
abbrev pub invariant-loop-number : goal.invariant-loop-number
invariant-loop-number g l = Puts (g.T.Target.standing l.fn.target) (g.T.Target.standing l.target) (spelled_lines (λ numbered. node_words (node_line (texts_of l.names) numbered)) (take l.number l.nodes))
