use Rattle.std.proofs.Common.{◌≡◌, ◌∷◌, ◌++◌, drop}
use Rattle.dcv_core.specs.Core.{TruthSlot}
use Rattle.dcv_scope.specs.Expansions.{names_of}
use Rattle.dcv_scope.proofs.expansion.Sight.bind.Given as goal

-- the names so far and those to come are the new name and the outer ones
abbrev pub invariant-loop-outer : goal.invariant-loop-outer
invariant-loop-outer l =
    names_of l.names.items ++ names_of (drop l.outer-index l.outer-items) ≡ (l.name.text, TruthSlot l.self.slots) ∷ names_of l.outer-items
