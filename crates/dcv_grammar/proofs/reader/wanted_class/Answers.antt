use Rattle.std.proofs.Common.{reverse}
use Rattle.dcv_grammar.specs.declared.grammar.Symbol.TheVariants.{Rule}
use Rattle.dcv_grammar.specs.Grammar.{grammar_of, production_of}
use Rattle.dcv_grammar.proofs.Stacks.{top_is, rule_in_table, turn}
use Rattle.dcv_grammar.proofs.reader.wanted_class.Goals as goal

pub rule-requires : goal.rule-requires
rule-requires c =
    let stack = c.loop-symbol.stack.items in
    let before = c.pop.new.self.items in
    let top = top_is stack before c.in-Some.symbol (Rule c.in-Rule.number) c.in-Some.ensures.items c.in-Rule.is in
    rule_in_table (grammar_of c.args.grammar.now) c.requires.predictive c.args.next (reverse c.args.stack.now.items) stack c.in-Rule.number (reverse before) c.loop-symbol.invariant top

-- the turn, of which the loop keeps one part and ends by the other
pub loop-symbol-smaller : goal.loop-symbol-smaller
loop-symbol-smaller c =
    let stack = c.loop-symbol.stack.items in
    let before = c.pop.new.self.items in
    let top = top_is stack before c.in-Some.symbol (Rule c.in-Rule.number) c.in-Some.ensures.items c.in-Rule.is in
    (turn (grammar_of c.args.grammar.now) c.requires.predictive c.args.next (reverse c.args.stack.now.items) stack c.in-Rule.number (reverse before) (production_of c.rule.result) c.body_for.result.now (reverse c.push_symbols.new.stack.items) c.loop-symbol.invariant top c.rule.ensures c.body_for.ensures c.in_ok-push_symbols-in-Rule.ensures).1

pub loop-symbol-preserved : goal.loop-symbol-preserved
loop-symbol-preserved c =
    let stack = c.loop-symbol.stack.items in
    let before = c.pop.new.self.items in
    let top = top_is stack before c.in-Some.symbol (Rule c.in-Rule.number) c.in-Some.ensures.items c.in-Rule.is in
    (turn (grammar_of c.args.grammar.now) c.requires.predictive c.args.next (reverse c.args.stack.now.items) stack c.in-Rule.number (reverse before) (production_of c.rule.result) c.body_for.result.now (reverse c.push_symbols.new.stack.items) c.loop-symbol.invariant top c.rule.ensures c.body_for.ensures c.in_ok-push_symbols-in-Rule.ensures).0
