use Rattle.std.proofs.Common.{◌≡◌, ◌++◌, drop}
use Rattle.dcv_joint.specs.Moved.{places_of}
use Rattle.dcv_scope.specs.Names.{texts}
use Rattle.dcv_joint.proofs.joint.places_of.Given as goal

-- those so far and those of the names that are left are all
abbrev pub invariant-loop-name : goal.invariant-loop-name
invariant-loop-name l = l.places.items ++ places_of l.joint (texts (drop l.name-index l.names)) ≡ places_of l.joint (texts l.names)
