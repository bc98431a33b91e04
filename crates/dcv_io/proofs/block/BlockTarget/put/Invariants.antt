use Rattle.std.proofs.Common.{◌≡◌, List, ℕ, ◌++◌, length}
use Rattle.dcv_io.specs.Putting.{Puts, block_put}
use Rattle.dcv_io.proofs.block.BlockTarget.put.Given as goal

-- what has been put and what is left are the whole
abbrev pub invariant-loop-rest : goal.invariant-loop-rest
invariant-loop-rest g l =
    let written = g.S.Sink.written in
    let faults = g.S.Sink.faults in
    (done : List ℕ) × Puts
    (block_put written faults g.S.Sink.last_failed l.fn.self.sink l.fn.self.held l.fn.self.failed)
    (block_put written faults g.S.Sink.last_failed l.self.sink l.self.held l.self.failed) done × (l.bytes ≡ done ++ l.rest)

abbrev pub decreases-loop-rest : goal.decreases-loop-rest
decreases-loop-rest g l = length l.rest
