use Rattle.std.proofs.Common.{take}
use Rattle.dcv_build.specs.Bounds.{AreSplit}
use Rattle.dcv_build.proofs.bounds.split_all.Given as goal

abbrev pub invariant-loop-part : goal.invariant-loop-part
invariant-loop-part l = record {
  split : AreSplit l.arena l.slot (take l.part-index l.parts) l.sides.keys;
}
