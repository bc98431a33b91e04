use Rattle.std.proofs.Common.{◌≡◌, take}
use Rattle.dcv_certificate.proofs.certificate.states_of.Given as goal

abbrev pub invariant-loop-state : goal.invariant-loop-state
invariant-loop-state l = record {
  rows : l.rows.items ≡ take l.state l.auto'.rows;
  flags : l.flags.items ≡ take l.state l.auto'.accepting;
}
