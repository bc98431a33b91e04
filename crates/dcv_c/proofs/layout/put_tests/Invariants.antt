use Rattle.std.proofs.Common.{take}
use Rattle.dcv_io.specs.Putting.{Puts}
use Rattle.dcv_observer.specs.Layouts.{◌<>◌, Each}
use Rattle.dcv_c.specs.Seen.{seen_test}
use Rattle.dcv_c.specs.Layout.{text_in, between_tests, test_layout}
use Rattle.dcv_c.proofs.layout.put_tests.Given as goal

-- the tests so far are put, each but the first after what stands between
abbrev pub invariant-loop-test : goal.invariant-loop-test
invariant-loop-test g l =
    Puts (g.T.Target.standing l.initial.target) (g.T.Target.standing l.target)
    (text_in (Each (λ test. between_tests <> test_layout (seen_test l.fn.names test)) (take l.test-index l.others)))
