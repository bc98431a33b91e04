use Rattle.std.proofs.Common.{ℕ, List, Option, map, drop, ◌+◌, subst}
use Rattle.std.specs.List.{AllByRecursion}
use Rattle.std.proofs.lemmas.List.{drop_more}
use Rattle.dcv_c.specs.Placed.{test_of}
use Rattle.dcv_c.specs.Words.{AreWordsOfTest}
use Rattle.dcv_c_read.specs.declared.placed.PlacedTest.{PlacedTest}
use Rattle.dcv_c_read.specs.Seen.{seen_test}
use Rattle.dcv_c_read.specs.Scope.{Frame}
use Rattle.dcv_observer.proofs.Judging.{leads_on}
use Rattle.dcv_c_read.proofs.Loops.{tests_more, tests_fault, tests_whole}
use Rattle.dcv_c_read.proofs.scope.Scope.tests.Goals as goal

pub returns-in_err-test : goal.returns-in_err-test
returns-in_err-test c = λ (frame : Frame) knows (whole : Option ℕ) left.
    let items = c.args.tests.now in
    let i = c.loop-test.test-index in
    leads_on whole _ c.from_residual.result c.in_err-test.field-0.0 c.from_residual.ensures.1
    (tests_fault frame.placed frame.known whole (drop i items) _ (drop (i + 1) items) c.in_err-test.field-0.0 (drop_more items i _ c.loop-test-test.true)
    (c.loop-test.invariant.1 frame knows whole left).1 (c.in_err-test.ensures frame knows))

pub loop-test-preserved : goal.loop-test-preserved
loop-test-preserved c =
    let items = c.args.tests.now in
    let i = c.loop-test.test-index in
    let split = drop_more items i _ c.loop-test-test.true in (
      (subst (λ (later : List PlacedTest). AllByRecursion AreWordsOfTest (map seen_test later)) split c.loop-test.invariant.0).1,
      λ (frame : Frame) knows (whole : Option ℕ) left.
          tests_more frame.placed frame.known whole (drop i items) _ (drop (i + 1) items)
          (map test_of (map seen_test items)) c.loop-test.all.items c.push.new.self.items c.in_ok-test.field-0 split
          c.in_ok-push.ensures.items (c.loop-test.invariant.1 frame knows whole left) (c.in_ok-test.ensures frame knows),
    )

pub returns : goal.returns
returns c = λ (frame : Frame) knows (whole : Option ℕ) left.
    tests_whole frame.placed frame.known whole c.args.tests.now c.loop-test.test-index _ c.loop-test.all.items c.loop-test-test.false
    (c.loop-test.invariant.1 frame knows whole left)
