use Rattle.std.proofs.Common.{◌≡◌, drop, map}
use Rattle.dcv_lexer.specs.Lexicon.{class_in}
use Rattle.dcv_lexer.proofs.tables.class_in.Given as goal

-- those that are left have the class that all have
abbrev pub invariant-loop-text : goal.invariant-loop-text
invariant-loop-text l =
    class_in (map (λ entry. (entry.0.now, entry.1)) (drop l.text-index l.table)) l.bytes ≡ class_in (map (λ entry. (entry.0.now, entry.1)) l.table) l.bytes
