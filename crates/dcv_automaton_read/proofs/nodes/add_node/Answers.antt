use Rattle.std.proofs.Common.{arith}
use Rattle.dcv_automaton_read.proofs.NodeWords.{added}
use Rattle.dcv_automaton_read.proofs.nodes.add_node.Goals as goal

pub returns-then-few : goal.returns-then-few
returns-then-few c =
    added c.args.nodes.now.keys c.args.node c.in_ok-is_new.is_new c.insert.new.self.keys (omega (arith, c.len.ensures.len)) c.in_ok-is_new.ensures.added c.in_ok-is_new.ensures.keys
