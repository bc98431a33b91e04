use Rattle.std.proofs.Common.{◌≡◌, ◌++◌, drop}
use Rattle.dcv_scope.specs.Names.{texts}
use Rattle.dcv_scope.specs.Sights.{texts_of}
use Rattle.dcv_scope.proofs.naming.outermost.Given as goal

-- the names so far and those to come are all of them
abbrev pub invariant-loop-name : goal.invariant-loop-name
invariant-loop-name l = texts_of l.names.items ++ texts (drop l.name-index l.variables) ≡ texts l.variables
