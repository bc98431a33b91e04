use Rattle.std.proofs.Common.{◌≡◌, length, take}
use Rattle.dcv_scope.specs.Expansions.{AreRelays}
use Rattle.dcv_scope.proofs.expansion.relays.relays_of.Given as goal

-- those so far
abbrev pub invariant-loop-place : goal.invariant-loop-place
invariant-loop-place l = AreRelays l.variables (take l.place l.macros) l.relays.items × (length l.relays.items ≡ l.place)
