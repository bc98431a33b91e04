use Rattle.std.proofs.Common.{◌≡◌, ℕ, List, Option, map, drop, ◌++◌}
use Rattle.std.specs.List.{AllByRecursion}
use Rattle.dcv_lexer.specs.Cuts.{Token}
use Rattle.dcv_c.specs.Tree.{CUnit}
use Rattle.dcv_c.specs.Placed.{statement_of}
use Rattle.dcv_c.specs.Words.{AreWordsOfStatement}
use Rattle.dcv_c.specs.Rules.{keeps_statements}
use Rattle.dcv_c_read.specs.Seen.{seen_statement}
use Rattle.dcv_c_read.specs.Scope.{Frame, Knows}
use Rattle.dcv_observer.specs.Judged.{IsLeft}
use Rattle.dcv_c_read.specs.Judged.{words_of_statements}
use Rattle.dcv_c_read.proofs.Loops.{AreStatementsSoFar}
use Rattle.dcv_c_read.proofs.scope.Scope.statements.Given as goal

abbrev pub invariant-loop-statement : goal.invariant-loop-statement
invariant-loop-statement l =
    AllByRecursion AreWordsOfStatement (map seen_statement (drop l.statement-index l.statements))
    × ((frame : Frame) → Knows frame l.initial.self → (unit : CUnit) → frame.lefts ≡ unit.statics ++ unit.locals → (whole : Option ℕ) (words : List Token)
    → IsLeft whole (words_of_statements (map seen_statement l.statements) ++ words)
    (keeps_statements unit frame.known (map statement_of (map seen_statement l.statements)))
    → AreStatementsSoFar unit frame whole words l.statements l.all.items (drop l.statement-index l.statements) l.self)
