use Rattle.std.proofs.Common.{◌≡◌, ℕ, Option, map, drop, ◌++◌}
use Rattle.std.specs.List.{AllByRecursion}
use Rattle.dcv_c.specs.Placed.{test_of}
use Rattle.dcv_c.specs.Words.{AreWordsOfTest}
use Rattle.dcv_observer.specs.Conditions.{seen_test as test_seen}
use Rattle.dcv_c_read.specs.Seen.{seen_test}
use Rattle.dcv_c_read.specs.Scope.{Frame, Knows}
use Rattle.dcv_observer.specs.Judged.{IsLeft}
use Rattle.dcv_c_read.specs.Judged.{words_of_tests, keeps_tests}
use Rattle.dcv_c_read.proofs.scope.Scope.tests.Given as goal

abbrev pub invariant-loop-test : goal.invariant-loop-test
invariant-loop-test l =
    let later = map seen_test (drop l.test-index l.tests) in
    AllByRecursion AreWordsOfTest later
    × ((frame : Frame) → Knows frame l.self → (whole : Option ℕ)
    → IsLeft whole (words_of_tests (map seen_test l.tests)) (keeps_tests frame.known (map test_of (map seen_test l.tests)))
    → (map (test_seen frame.placed) l.all.items ++ map test_of later ≡ map test_of (map seen_test l.tests))
    × IsLeft whole (words_of_tests later) (keeps_tests frame.known (map test_of later)))
