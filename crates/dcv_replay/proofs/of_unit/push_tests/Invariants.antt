use Rattle.std.proofs.Common.{◌≡◌, ◌++◌, take}
use Rattle.dcv_replay.specs.OfUnit.{tests_selects}
use Rattle.dcv_replay.proofs.of_unit.push_tests.Given as goal

-- the tests so far have their selections
abbrev pub invariant-loop-test : goal.invariant-loop-test
invariant-loop-test l = l.selects.items ≡ l.fn.selects.items ++ tests_selects l.answer (take l.test-index l.tests)
