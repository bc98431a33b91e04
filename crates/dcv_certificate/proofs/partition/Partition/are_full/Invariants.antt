use Rattle.std.proofs.Common.{◌≤◌, All, take, get_or}
use Rattle.dcv_refinement.specs.Members.{block_of}
use Rattle.dcv_certificate.specs.Tallies.{number_of, tallied}
use Rattle.dcv_certificate.proofs.partition.Partition.are_full.Given as goal

abbrev pub invariant-loop-state : goal.invariant-loop-state
invariant-loop-state l =
    All (λ mark. get_or l.self.sizes.items (block_of l.self.blocks.items mark.0) 0 ≤ number_of (tallied l.tally (block_of l.self.blocks.items mark.0))) (take l.state-index l.marks)
