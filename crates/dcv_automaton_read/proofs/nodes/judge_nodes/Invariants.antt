use Rattle.std.proofs.Common.{◌≡◌, ◌+◌, ◌*◌, ◌≤◌, length}
use Rattle.dcv_language.specs.Limits.{most_nodes}
use Rattle.dcv_automaton_text.specs.Rules.{keeps_node}
use Rattle.dcv_automaton_text.specs.Spelled.{node_words}
use Rattle.dcv_automaton_lines.specs.Seen.{file_of}
use Rattle.dcv_automaton_read.specs.Seen.{AreNodesOf}
use Rattle.dcv_automaton_read.proofs.Judging.{IsLeft}
use Rattle.dcv_automaton_read.proofs.nodes.judge_nodes.Given as goal

abbrev pub invariant-loop-line : goal.invariant-loop-line
invariant-loop-line l =
    IsLeft node_words (keeps_node (file_of l.lines)) (file_of l.lines).node_lines l.first l.line-index l.number × (l.number ≤ l.first + 7 * l.line-index) × (l.line-index ≤ most_nodes)
    × AreNodesOf (file_of l.lines) l.line-index l.nodes.keys × (length l.nodes.keys ≡ l.line-index)
