use Rattle.std.proofs.Common.{◌≡◌, ◌≤◌, ◌-◌, Bool, List}
use Rattle.std.specs.List.{range_with_len}
use Rattle.dcv_arena.specs.Arena.{IsArena, KeepsRefs, value_of}
use Rattle.dcv_tables.specs.Below.{IsBelow}
use Rattle.dcv_tables.specs.Parity.{parity_number}
use Rattle.dcv_tables.proofs.diagrams.parity.Given as goal

abbrev pub invariant-loop-slot : goal.invariant-loop-slot
invariant-loop-slot l = record {
  kept : KeepsRefs l.fn.arena l.arena;
  arena : IsArena l.arena;
  within : l.slot ≤ l.fn.arena.slots;
  same : IsBelow l.arena l.bound l.slot l.same;
  other : IsBelow l.arena l.bound l.slot l.other;
  same_value : (letter : List Bool) → value_of l.arena l.same letter ≡ parity_number l.each l.even l.odd (range_with_len l.slot (l.fn.arena.slots - l.slot)) letter;
  other_value : (letter : List Bool) → value_of l.arena l.other letter ≡ parity_number l.each l.odd l.even (range_with_len l.slot (l.fn.arena.slots - l.slot)) letter;
}
