use Rattle.std.proofs.Common.{◌≡◌, drop}
use Rattle.dcv_joint.specs.Faults.{most_names, too_many_at}
use Rattle.dcv_joint.specs.Names.{with_new}
use Rattle.dcv_scope.specs.Names.{texts}
use Rattle.dcv_joint.proofs.joint.Joint.add.Given as goal

-- with those that are left it is as from the beginning
abbrev pub invariant-loop-name : goal.invariant-loop-name
invariant-loop-name l = record {
  added : with_new l.self (texts (drop l.name-index l.names)) ≡ with_new l.fn.self (texts l.names);
  fit : too_many_at most_names l.self (drop l.name-index l.names) ≡ too_many_at most_names l.fn.self l.names;
}
