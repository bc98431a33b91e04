use Rattle.std.proofs.Common.{reverse}
use Rattle.dcv_grammar.proofs.Readings.{ended}
use Rattle.dcv_grammar.proofs.reader.Reading.end.Goals as goal

pub returns : goal.returns
returns c = ended c.args.self.now (reverse c.wanted_class.new.stack.items) c.in_ok-wanted.wanted c.is_none.result c.in_ok-wanted.ensures c.is_none.ensures
