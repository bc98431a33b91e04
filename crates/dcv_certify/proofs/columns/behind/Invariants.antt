use Rattle.std.proofs.Common.{◌≡◌, suc, length, map, take}
use Rattle.dcv_certify.specs.Split.{bit_at}
use Rattle.dcv_certify.proofs.columns.behind.Given as goal

-- the bits of the states before this place
abbrev pub invariant-loop-state : goal.invariant-loop-state
invariant-loop-state l = (length l.column.items ≡ suc (length l.next)) × (take l.state l.column.items ≡ map (bit_at l.from) (take l.state l.next))
