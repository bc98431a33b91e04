use Rattle.std.proofs.Common.{take}
use Rattle.dcv_io.specs.Putting.{Puts}
use Rattle.dcv_automaton_file.specs.File.{texts_of, node_line}
use Rattle.dcv_automaton_file.specs.Lines.{node_text}
use Rattle.dcv_automaton_file.proofs.PutLines.{lines_text}
use Rattle.dcv_automaton_file.proofs.lines.put_nodes.Given as goal

-- the lines so far are put
abbrev pub invariant-loop-number : goal.invariant-loop-number
invariant-loop-number g l =
    Puts (g.T.Target.standing l.fn.target) (g.T.Target.standing l.target) (lines_text (node_text l.layout) (node_line (texts_of l.names)) (take l.number l.lines))
