use Rattle.std.proofs.Common.{◌≡◌, ◌-◌}
use Rattle.dcv_arena.specs.Arena.{IsRef, level_of, value_of}
use Rattle.dcv_arena.proofs.nodes.Arena.eval.Given as goal

abbrev pub invariant-loop-current : goal.invariant-loop-current
invariant-loop-current l = record {
  is_ref : IsRef l.self l.current;
  same : value_of l.self l.current l.letter ≡ value_of l.self l.fn.root l.letter;
}

abbrev pub decreases-loop-current : goal.decreases-loop-current
decreases-loop-current l = l.self.slots - level_of l.self l.current
