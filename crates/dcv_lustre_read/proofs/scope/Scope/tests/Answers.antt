use Rattle.std.proofs.Common.{ℕ, List, Bool, Option, map, drop, ◌++◌, ◌+◌, subst}
use Rattle.std.specs.List.{AllByRecursion}
use Rattle.std.proofs.lemmas.List.{drop_more}
use Rattle.dcv_lexer.specs.Cuts.{Token}
use Rattle.dcv_lustre.specs.Placed.{test_of}
use Rattle.dcv_lustre.specs.Words.{AreWordsOfTest}
use Rattle.dcv_observer.specs.Conditions.{Names}
use Rattle.dcv_lustre.specs.Tree.{Node}
use Rattle.dcv_lustre_read.specs.Seen.{seen_test}
use Rattle.dcv_lustre_read.specs.declared.placed.PlacedTest.{PlacedTest as CodeTest}
use Rattle.dcv_observer.proofs.Judging.{leads_on}
use Rattle.dcv_lustre_read.proofs.RightSides.{tests_more, tests_fault, tests_whole}
use Rattle.dcv_lustre_read.proofs.scope.Scope.tests.Goals as goal

pub returns-in_err-test : goal.returns-in_err-test
returns-in_err-test c = λ (node : Node) (earlier : Names) knows (whole : Option ℕ) (words : List Token) (keeps : List Bool) left.
    let items = c.args.tests.now in
    let i = c.loop-test.test-index in
    leads_on whole _ c.from_residual-in_err-test.result c.in_err-test.field-0.0 c.from_residual-in_err-test.ensures.1
    (tests_fault node (node.inputs ++ earlier) whole words keeps (drop i items) _ (drop (i + 1) items) c.in_err-test.field-0.0 (drop_more items i _ c.loop-test-test.true)
    (c.loop-test.invariant.1 node earlier knows whole words keeps left).1 (c.in_err-test.ensures node earlier knows))

pub loop-test-preserved : goal.loop-test-preserved
loop-test-preserved c =
    let items = c.args.tests.now in
    let i = c.loop-test.test-index in
    let split = drop_more items i _ c.loop-test-test.true in (
      (subst (λ (later : List CodeTest). AllByRecursion AreWordsOfTest (map seen_test later)) split c.loop-test.invariant.0).1,
      λ (node : Node) (earlier : Names) knows (whole : Option ℕ) (words : List Token) (keeps : List Bool) left.
          tests_more node (node.inputs ++ earlier) whole words keeps (drop i items) _ (drop (i + 1) items)
          (map test_of (map seen_test items)) c.loop-test.all.items c.push.new.self.items c.in_ok-test.field-0 split
          c.in_ok-push.ensures.items (c.loop-test.invariant.1 node earlier knows whole words keeps left) (c.in_ok-test.ensures node earlier knows),
    )

pub returns : goal.returns
returns c = λ (node : Node) (earlier : Names) knows (whole : Option ℕ) (words : List Token) (keeps : List Bool) left.
    tests_whole node (node.inputs ++ earlier) whole words keeps c.args.tests.now c.loop-test.test-index _ c.loop-test.all.items c.loop-test-test.false
    (c.loop-test.invariant.1 node earlier knows whole words keeps left)
