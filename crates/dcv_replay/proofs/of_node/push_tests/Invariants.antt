use Rattle.std.proofs.Common.{◌≡◌, ◌++◌, take}
use Rattle.dcv_replay.specs.OfNode.{tests_selects}
use Rattle.dcv_replay.proofs.of_node.push_tests.Given as goal

-- the tests so far have their selections
abbrev pub invariant-loop-test : goal.invariant-loop-test
invariant-loop-test l = l.selects.items ≡ l.fn.selects.items ++ tests_selects l.target (take l.test-index l.tests)
