use Rattle.std.proofs.Common.{◌≡◌, ◌∷◌, ◌++◌, drop}
use Rattle.dcv_scope.specs.Sights.{texts_of}
use Rattle.dcv_scope.proofs.naming.Sight.bind.Given as goal

-- the names so far and those to come are the new name and the outer ones
abbrev pub invariant-loop-outer : goal.invariant-loop-outer
invariant-loop-outer l = texts_of l.variables.items ++ texts_of (drop l.outer-index l.outer-items) ≡ l.name.text ∷ texts_of l.outer-items
