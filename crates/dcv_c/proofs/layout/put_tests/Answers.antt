use Rattle.dcv_observer.specs.declared.conditions.Test.{Test as CodeTest}
use Rattle.dcv_observer.proofs.Listing.{joined_seen}
use Rattle.dcv_observer.specs.Layouts.{◌<>◌}
use Rattle.dcv_io.proofs.Putting.{puts_one_more, puts_both, puts_same}
use Rattle.dcv_c.specs.Seen.{seen_test}
use Rattle.dcv_c.specs.Layout.{text_in, between_tests, test_layout}
use Rattle.dcv_c.proofs.layout.put_tests.Goals as goal

pub loop-test-preserved : goal.loop-test-preserved
loop-test-preserved g c =
    puts_one_more (λ (test : CodeTest). text_in (between_tests <> test_layout (seen_test c.args.names.now test))) c.in-Some.others.now c.loop-test.test-index _ _ _ _
    c.loop-test-test.true c.loop-test.invariant c.put_test-in-loop-test.ensures

pub returns : goal.returns
returns g c =
    puts_same _ _ _ _ (puts_both _ _ _ _ _ c.put_test.ensures c.loop-test.invariant)
    (joined_seen (λ test. text_in (test_layout test)) (text_in between_tests) (seen_test c.args.names.now) c.in-Some.first.now c.in-Some.others.now c.args.tests.now
    c.loop-test.test-index c.in-Some.ensures.cases.0 c.loop-test-test.false)
