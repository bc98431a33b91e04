use Rattle.std.proofs.Common.{◌≡◌, drop}
use Rattle.dcv_synth.specs.Forced.{AreForcedBut}
use Rattle.dcv_synth.proofs.forcing.Forcing.force_each.Given as goal

abbrev pub invariant-loop-place : goal.invariant-loop-place
invariant-loop-place l =
    let first = l.initial.self in
    (l.self.arena.now ≡ first.arena.now) × (l.self.inputs ≡ first.inputs) × (l.self.lost.items ≡ first.lost.items)
    × AreForcedBut (drop l.place-index l.places) first.inputs first.arena.now first.lost.items l.self.forced.items
