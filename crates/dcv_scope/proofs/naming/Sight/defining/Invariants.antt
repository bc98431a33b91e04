use Rattle.std.proofs.Common.{◌≡◌, ◌++◌, drop}
use Rattle.dcv_scope.specs.Names.{texts}
use Rattle.dcv_scope.specs.Sights.{texts_of}
use Rattle.dcv_scope.proofs.naming.Sight.defining.Given as goal

-- the names so far and those to come are the parameters, and then the outer names
abbrev pub invariant-loop-parameter : goal.invariant-loop-parameter
invariant-loop-parameter l = texts_of l.variables.items ++ texts (drop l.parameter-index l.parameters) ≡ texts l.parameters

abbrev pub invariant-loop-outer : goal.invariant-loop-outer
invariant-loop-outer l = texts_of l.variables.items ++ texts_of (drop l.outer-index l.outer-items) ≡ texts l.parameters ++ texts_of l.outer-items
