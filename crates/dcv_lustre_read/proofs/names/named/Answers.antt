use Rattle.dcv_lustre.proofs.EachTree.{words_spelled}
use Rattle.dcv_lustre_read.specs.Seen.{seen_node}
use Rattle.dcv_lustre_read.proofs.names.named.Goals as goal

pub node-node-requires-clause-words : goal.node-node-requires-clause-words
node-node-requires-clause-words c = words_spelled c.requires.spelled.0 (seen_node c.args.placed.now) c.requires.spelled.1
