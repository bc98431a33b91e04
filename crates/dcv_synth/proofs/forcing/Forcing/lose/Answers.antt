use Rattle.std.proofs.Common.{ℕ, ◌<◌, List, ◌++◌, length, sym, subst, ◌∙◌}
use Rattle.std.specs.List.Sorted.{IsPermutation}
use Rattle.std.proofs.lemmas.List.Sorted.{All-permutation}
use Rattle.dcv_synth.proofs.Losing.{forced_but}
use Rattle.dcv_synth.proofs.forcing.Forcing.lose.Goals as goal
use Rattle.dcv_synth.proofs.forcing.Forcing.lose.Goals.{After-deref}

-- the places are those above, in order
sorted : (c : After-deref) → IsPermutation c.args.above.now c.deref.result.now
sorted c =
    subst (λ (lists : List ℕ × List ℕ). IsPermutation lists.0 lists.1)
    (λ i. ((c.in_ok-extend_from_slice.ensures.items ∙ (λ j. c.new-places.ensures.items j ++ c.args.above.now)) i, sym c.deref.ensures.value i)) c.sort_unstable.ensures.permutation

pub force_each-requires-clause-within : goal.force_each-requires-clause-within
force_each-requires-clause-within c =
    All-permutation (λ place. place < length c.args.self.now.arena.now.nodes) c.args.above.now c.deref.result.now (sorted c) c.requires.within

pub force_each-requires-clause-forced : goal.force_each-requires-clause-forced
force_each-requires-clause-forced c =
    let self = c.args.self.now in
    forced_but self.inputs self.arena.now self.lost.items c.lose_each.new.lost.items self.forced.items c.args.states.now c.args.above.now c.deref.result.now
    c.lose_each.ensures c.requires.forced c.requires.apart (sorted c)
