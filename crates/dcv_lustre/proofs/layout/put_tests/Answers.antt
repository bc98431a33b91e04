use Rattle.std.proofs.Common.{◌≡◌, ◌∷◌, arith}
use Rattle.std.proofs.lemmas.Grind.{common_steps}
use Rattle.dcv_observer.specs.declared.conditions.Test.{Test as CodeTest}
use Rattle.dcv_observer.proofs.Listing.{joined_seen}
use Rattle.dcv_observer.specs.Layouts.{◌<>◌}
use Rattle.dcv_io.proofs.Putting.{puts_one_more, puts_both, puts_same}
use Rattle.dcv_lustre.specs.Tree.{Test}
use Rattle.dcv_lustre.specs.Seen.{seen_test}
use Rattle.dcv_lustre.specs.Layout.{text_in, or_layout, test_layout}
use Rattle.dcv_lustre.proofs.layout.put_tests.Goals as goal

pub loop-test-preserved : goal.loop-test-preserved
loop-test-preserved g c =
    puts_one_more (λ (test : CodeTest). text_in (or_layout <> test_layout (seen_test c.args.names.now test))) c.in-Some.others.now c.loop-test.test-index _ _ _ _ c.loop-test-test.true c.loop-test.invariant
    c.put_test-in-loop-test.ensures

pub returns : goal.returns
returns g c =
    let split : c.args.tests.now ≡ c.in-Some.first.now ∷ c.in-Some.others.now = grind (arith, common_steps) in
    puts_same _ _ _ _ (puts_both _ _ _ _ _ c.put_test.ensures c.loop-test.invariant)
    (joined_seen (λ (test : Test). text_in (test_layout test)) (text_in or_layout) (seen_test c.args.names.now) c.in-Some.first.now c.in-Some.others.now c.args.tests.now c.loop-test.test-index split c.loop-test-test.false)
