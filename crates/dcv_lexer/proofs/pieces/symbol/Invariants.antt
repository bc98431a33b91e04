use Rattle.std.proofs.Common.{◌≡◌, drop, map}
use Rattle.dcv_lexer.specs.Fronts.{first_fit}
use Rattle.dcv_lexer.proofs.pieces.symbol.Given as goal

-- the first of those that are left is the first of all
abbrev pub invariant-loop-symbol : goal.invariant-loop-symbol
invariant-loop-symbol l =
    first_fit l.text (map (λ entry. (entry.0.now, entry.1)) (drop l.symbol-index l.symbols)) ≡ first_fit l.text (map (λ entry. (entry.0.now, entry.1)) l.symbols)
