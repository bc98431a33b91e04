use Rattle.dcv_grammar.specs.declared.grammar.Symbol.TheVariants.{Rule}
use Rattle.dcv_grammar.proofs.Stacks.{one_pushed}
use Rattle.dcv_grammar.proofs.Readings.{begun}
use Rattle.dcv_grammar.proofs.reader.Reading.new.Goals as goal

pub returns-clause-taken : goal.returns-clause-taken
returns-clause-taken c =
    begun (record { grammar = c.args.grammar; stack = c.push.new.self }) c.requires
    (one_pushed c.new-stack.result.items c.push.new.self.items (Rule c.args.grammar.start) c.new-stack.ensures.items c.in_ok-push.ensures.items)
