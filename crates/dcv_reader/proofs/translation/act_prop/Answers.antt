use Rattle.std.proofs.Common.{map, arith}
use Rattle.dcv_reader.specs.Parts.{seen_part}
use Rattle.dcv_reader.proofs.EachTree.{known_rule}
use Rattle.dcv_reader.proofs.translation.act_prop.Goals as goal

pub unreachable-requires : goal.unreachable-requires
unreachable-requires c = known_rule c.args.rule (map seen_part c.args.parts.now) c.requires.meant (omega (arith, c.requires.from))
