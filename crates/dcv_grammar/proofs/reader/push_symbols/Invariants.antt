use Rattle.std.proofs.Common.{◌≡◌, ◌++◌, map}
use Rattle.dcv_grammar.proofs.reader.push_symbols.Given as goal

abbrev pub invariant-loop-symbol : goal.invariant-loop-symbol
invariant-loop-symbol l = l.stack.items ≡ l.fn.stack.items ++ map (λ symbol. symbol.now) l.yielded
