use Rattle.std.proofs.Common.{◌≡◌, ◌∷◌, ◌++◌, drop}
use Rattle.dcv_scope.specs.Measures.{leaf}
use Rattle.dcv_scope.specs.Walk.{constant, quantified_leaves}
use Rattle.dcv_scope.proofs.measures.Sight.bind.Given as goal

-- the names so far and those to come are the new name and the outer ones
abbrev pub invariant-loop-outer : goal.invariant-loop-outer
invariant-loop-outer l =
    quantified_leaves l.quantified.items ++ quantified_leaves (drop l.outer-index l.outer-items) ≡ (l.name.text, constant leaf) ∷ quantified_leaves l.outer-items
