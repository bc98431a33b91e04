use Rattle.std.proofs.Common.{◌≡◌, filter, length, take}
use Rattle.dcv_build.specs.Bounds.{is_node_at}
use Rattle.dcv_build.proofs.bounds.nodes_at.Given as goal

abbrev pub invariant-loop-part : goal.invariant-loop-part
invariant-loop-part l = record {
  count : l.nodes ≡ length (filter (is_node_at l.arena l.slot) (take l.part-index l.parts));
}
