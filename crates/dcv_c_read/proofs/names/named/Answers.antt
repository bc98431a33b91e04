use Rattle.dcv_c.proofs.EachTree.{words_spelled}
use Rattle.dcv_c_read.specs.Seen.{seen_unit}
use Rattle.dcv_c_read.proofs.names.named.Goals as goal

pub unit-unit-requires-clause-words : goal.unit-unit-requires-clause-words
unit-unit-requires-clause-words c = words_spelled c.requires.spelled.0 (seen_unit c.args.placed.now) c.requires.spelled.1
