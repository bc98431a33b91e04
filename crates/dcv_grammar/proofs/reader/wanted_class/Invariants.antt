use Rattle.std.proofs.Common.{reverse}
use Rattle.dcv_grammar.specs.Grammar.{grammar_of}
use Rattle.dcv_grammar.proofs.Steps.{IsStackFor, stack_weight}
use Rattle.dcv_grammar.proofs.reader.wanted_class.Given as goal

abbrev pub invariant-loop-symbol : goal.invariant-loop-symbol
invariant-loop-symbol l =
    IsStackFor (grammar_of l.grammar) l.next (reverse l.fn.stack.items) (reverse l.stack.items)

abbrev pub decreases-loop-symbol : goal.decreases-loop-symbol
decreases-loop-symbol l = stack_weight (grammar_of l.grammar) (reverse l.stack.items)
