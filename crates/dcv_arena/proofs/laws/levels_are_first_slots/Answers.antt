use Rattle.std.proofs.Common.{arith}
use Rattle.dcv_arena.specs.Arena.{level_of}
use Rattle.dcv_arena.proofs.Refs.{ignores_earlier, own_slot_matters}
use Rattle.dcv_arena.proofs.laws.levels_are_first_slots.Goals as goal

pub returns : goal.returns
returns c = record {
  earlier = λ arena ref first second is one same. ignores_earlier arena is.reduced (level_of arena ref) ref one (omega arith) first second same;
  own = λ arena ref is one inner same. own_slot_matters arena is.reduced ref one inner same;
}
