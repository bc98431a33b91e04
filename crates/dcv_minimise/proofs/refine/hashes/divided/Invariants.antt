use Rattle.dcv_minimise.specs.Hashes.{alike_of, AreDivided}
use Rattle.dcv_minimise.specs.declared.refine.hashes.Alike.{Alike}
use Rattle.dcv_minimise.proofs.refine.hashes.divided.Given as goal

abbrev pub invariant-loop-state : goal.invariant-loop-state
invariant-loop-state l = record {
  divided : AreDivided Alike (alike_of l.raw l.blocks l.hashes.items) l.state l.made.parts.keys l.made.blocks.items l.made.witness.items;
}
