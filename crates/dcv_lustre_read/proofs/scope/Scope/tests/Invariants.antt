use Rattle.std.proofs.Common.{◌≡◌, ℕ, List, Bool, Option, map, drop, ◌++◌}
use Rattle.std.specs.List.{AllByRecursion}
use Rattle.dcv_lexer.specs.Cuts.{Token}
use Rattle.dcv_lustre.specs.Placed.{test_of}
use Rattle.dcv_lustre.specs.Words.{AreWordsOfTest}
use Rattle.dcv_observer.specs.Conditions.{Names, seen_test as test_seen}
use Rattle.dcv_lustre.specs.Tree.{Node}
use Rattle.dcv_lustre.specs.Meaning.{names_of}
use Rattle.dcv_lustre_read.specs.Seen.{seen_test}
use Rattle.dcv_lustre_read.specs.Scope.{seen_row, Knows}
use Rattle.dcv_observer.specs.Judged.{IsLeft}
use Rattle.dcv_lustre_read.specs.Judged.{words_of_tests, keeps_tests}
use Rattle.dcv_lustre_read.proofs.scope.Scope.tests.Given as goal

abbrev pub invariant-loop-test : goal.invariant-loop-test
invariant-loop-test l =
    let later = map seen_test (drop l.test-index l.tests) in
    AllByRecursion AreWordsOfTest later
    × ((node : Node) (earlier : Names) → Knows node earlier l.self.declared (map seen_row l.self.names.items)
    → (whole : Option ℕ) (words : List Token) (keeps : List Bool)
    → IsLeft whole (words_of_tests (map seen_test l.tests) ++ words) (keeps_tests node (node.inputs ++ earlier) (map test_of (map seen_test l.tests)) ++ keeps)
    → (map (test_seen (names_of node)) l.all.items ++ map test_of later ≡ map test_of (map seen_test l.tests))
    × IsLeft whole (words_of_tests later ++ words) (keeps_tests node (node.inputs ++ earlier) (map test_of later) ++ keeps))
