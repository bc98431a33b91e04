use Rattle.std.proofs.Common.{◌≡◌, ◌+◌, ◌≤◌, length}
use Rattle.dcv_synth.specs.Ranked.{IsStanding}
use Rattle.dcv_synth.proofs.Ranking.{count_kept}
use Rattle.dcv_synth.proofs.ranks.ranks.Given as goal

abbrev pub invariant-rounds : goal.invariant-rounds
invariant-rounds l =
    IsStanding l.auto' l.standing.bound l.standing.forcing l.standing.ranks.items l.standing.beaten.items
    × (l.standing.forcing.inputs ≡ l.inputs)
    × (l.standing.bound + count_kept l.standing.forcing.lost.items ≤ length l.auto'.rows)

abbrev pub decreases-rounds : goal.decreases-rounds
decreases-rounds l = count_kept l.standing.forcing.lost.items
