use Rattle.std.proofs.Common.{refl}
use Rattle.dcv_grammar.proofs.Readings.{took}
use Rattle.dcv_grammar.proofs.reader.Reading.take.Goals as goal

pub returns-clause-taken : goal.returns-clause-taken
returns-clause-taken c =
    let old = c.args.self.now in
    took old (record { grammar = old.grammar; stack = c.wanted_class.new.stack }) c.args.class c.in_ok-wanted.wanted c.eq.result c.requires.predictive refl c.in_ok-wanted.ensures c.eq.ensures
