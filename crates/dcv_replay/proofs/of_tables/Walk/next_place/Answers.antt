use Rattle.std.proofs.Common.{◌≡◌, length, arith}
use Rattle.dcv_replay.proofs.TableSteps.{node_seen}
use Rattle.dcv_replay.proofs.of_tables.Walk.next_place.Goals as goal

pub overflow_cast-node : goal.overflow_cast-node
overflow_cast-node c =
    let count : c.len.result ≡ length c.args.self.now.states.items = omega (arith, c.len.ensures) in
    let same = node_seen c.args.self.now.nodes.items c.args.self.now.states.items c.args.place c.len.result c.index-node.result.now count c.index-node.ensures c.requires.node in
    omega (arith, same, c.requires.variable, c.requires.few)
