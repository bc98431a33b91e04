use Rattle.std.proofs.Common.{◌≡◌, ◌++◌, map}
use Rattle.std.specs.List.{zip}
use Rattle.std.specs.Iterator.Adapters.{zip_first, zip_second}
use Rattle.std.specs.Slice.Iter.{iter_rest}
use Rattle.dcv_scope.specs.Names.{texts}
use Rattle.dcv_core.specs.TruthViews.{plain_truth}
use Rattle.dcv_scope.specs.Expansions.{names_of}
use Rattle.dcv_scope.proofs.expansion.Called.inside.Given as goal

-- the parameters so far and those to come are all of them
abbrev pub invariant-loop-parameter : goal.invariant-loop-parameter
invariant-loop-parameter l =
    names_of l.names.items
    ++ zip (texts (iter_rest (zip_first l.parameter-iterator))) (map plain_truth (iter_rest (zip_second l.parameter-iterator)))
    ≡ zip (texts l.self.defined.now.parameters.items) (map plain_truth l.arguments)
