use Rattle.std.proofs.Common.{◌≡◌, length}
use Rattle.dcv_synth.specs.Forced.{AreForcedBefore}
use Rattle.dcv_synth.proofs.forcing.Forcing.new.Given as goal

abbrev pub invariant-loop-place : goal.invariant-loop-place
invariant-loop-place l =
    (l.forcing.arena.now ≡ l.arena) × (l.forcing.inputs ≡ l.inputs) × (l.forcing.lost.items ≡ l.fn.lost.items)
    × AreForcedBefore l.place l.inputs l.arena l.fn.lost.items l.forcing.forced.items × (length l.forcing.forced.items ≡ l.place)
