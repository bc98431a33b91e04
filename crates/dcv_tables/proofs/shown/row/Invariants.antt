use Rattle.std.proofs.Common.{◌≡◌, map, take}
use Rattle.dcv_arena.specs.Arena.{value_of}
use Rattle.dcv_tables.proofs.shown.row.Given as goal

abbrev pub invariant-loop-letter : goal.invariant-loop-letter
invariant-loop-letter g l = l.row.items ≡ map (value_of (g.T.Table.arena l.table) l.root) (take l.letter-index l.letters)
