use Rattle.std.proofs.Common.{◌≡◌, ℕ, List, Option, map, drop, [], ◌∷◌, ◌+◌, ap, sym, subst, ◌∙◌}
use Rattle.std.specs.List.{AllByRecursion}
use Rattle.std.proofs.lemmas.List.{drop_more, at_drop_all}
use Rattle.dcv_lexer.specs.Cuts.{Token}
use Rattle.dcv_c.specs.Tree.{CUnit}
use Rattle.dcv_c.specs.Words.{AreWordsOfStatement}
use Rattle.dcv_c_read.specs.declared.placed.PlacedStatement.{PlacedStatement}
use Rattle.dcv_c_read.specs.Seen.{seen_statement}
use Rattle.dcv_c_read.specs.Scope.{Frame, with_known}
use Rattle.dcv_observer.proofs.Judging.{leads_on}
use Rattle.dcv_c_read.proofs.Loops.{AreStatementsSoFar, statement_left, statements_more, statements_end}
use Rattle.dcv_c_read.proofs.scope.Scope.statements.Goals as goal

pub returns-in_err-statement : goal.returns-in_err-statement
returns-in_err-statement c = λ (frame : Frame) knows (unit : CUnit) lefts (whole : Option ℕ) (words : List Token) left.
    let items = c.args.statements.now in
    let i = c.loop-statement.statement-index in
    let split : drop i items ≡ c.statement-item.result ∷ drop (i + 1) items =
    drop_more items i c.statement-item.result c.loop-statement-test.true ∙ ap (λ (x : PlacedStatement). x ∷ drop (i + 1) items) (sym c.statement-item.is) in
    let sofar = subst (λ (later : List PlacedStatement). AreStatementsSoFar unit frame whole words items c.loop-statement.all.items later c.loop-statement.self) split
    (c.loop-statement.invariant.1 frame knows unit lefts whole words left) in
    leads_on whole _ c.from_residual-in_err-statement.result c.in_err-statement.field-0.0 c.from_residual-in_err-statement.ensures.1
    (c.in_err-statement.ensures (with_known sofar.known frame) sofar.knows unit lefts whole _ _
    (statement_left unit frame whole words items c.loop-statement.all.items _ (drop (i + 1) items) c.loop-statement.self sofar))

pub loop-statement-preserved : goal.loop-statement-preserved
loop-statement-preserved c =
    let items = c.args.statements.now in
    let i = c.loop-statement.statement-index in
    let split : drop i items ≡ c.statement-item.result ∷ drop (i + 1) items =
    drop_more items i c.statement-item.result c.loop-statement-test.true ∙ ap (λ (x : PlacedStatement). x ∷ drop (i + 1) items) (sym c.statement-item.is) in (
      (subst (λ (later : List PlacedStatement). AllByRecursion AreWordsOfStatement (map seen_statement later)) split c.loop-statement.invariant.0).1,
      λ (frame : Frame) knows (unit : CUnit) lefts (whole : Option ℕ) (words : List Token) left.
          let sofar = subst (λ (later : List PlacedStatement). AreStatementsSoFar unit frame whole words items c.loop-statement.all.items later c.loop-statement.self) split
          (c.loop-statement.invariant.1 frame knows unit lefts whole words left) in
          statements_more unit frame whole words items c.loop-statement.all.items _ (drop (i + 1) items) c.loop-statement.self sofar _ c.push.new.self.items c.in_ok-statement.field-0
          c.in_ok-push.ensures.items
          (c.in_ok-statement.ensures (with_known sofar.known frame) sofar.knows unit lefts whole _ _
          (statement_left unit frame whole words items c.loop-statement.all.items _ (drop (i + 1) items) c.loop-statement.self sofar)),
    )

pub returns : goal.returns
returns c = λ (frame : Frame) knows (unit : CUnit) lefts (whole : Option ℕ) (words : List Token) left.
    let items = c.args.statements.now in
    let none : drop c.loop-statement.statement-index items ≡ [] =
    at_drop_all (λ (later : List PlacedStatement). later) items c.loop-statement.statement-index c.loop-statement-test.false in
    statements_end unit frame whole words items c.loop-statement.all.items c.loop-statement.self
    (subst (λ (later : List PlacedStatement). AreStatementsSoFar unit frame whole words items c.loop-statement.all.items later c.loop-statement.self) none
    (c.loop-statement.invariant.1 frame knows unit lefts whole words left))
