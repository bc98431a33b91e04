use Rattle.std.proofs.Common.{◌≡◌, ℕ, ◌≤◌, length, take, drop}
use Rattle.dcv_io.specs.Written.{Appends}
use Rattle.dcv_io.proofs.writing.write_all.Given as goal

-- some bytes from the front have been added, the rest is left, and no write has failed
abbrev pub invariant-loop-rest : goal.invariant-loop-rest
invariant-loop-rest g l =
    let written = g.S.Sink.written in
    (n : ℕ) × (n ≤ length l.bytes) × (l.rest ≡ drop n l.bytes) × Appends (written l.initial.sink) (written l.sink) (take n l.bytes) × (g.S.Sink.faults l.sink ≡ g.S.Sink.faults l.initial.sink)

abbrev pub decreases-loop-rest : goal.decreases-loop-rest
decreases-loop-rest g l = length l.rest
