use Rattle.std.proofs.Common.{subst}
use Rattle.dcv_arena.specs.Arena.{AddsOnlyNodesOfFunction}
use Rattle.dcv_renumber.specs.Renumbered.{renumbered}
use Rattle.dcv_renumber.proofs.renumbering.remap.Goals as goal

pub remap-requires-clause-holds : goal.remap-requires-clause-holds
remap-requires-clause-holds c = c.new.ensures.holds c.args.arena.now

pub returns-clause-stray : goal.returns-clause-stray
returns-clause-stray c =
    subst (AddsOnlyNodesOfFunction c.args.arena.now c.remap.new.arena) (λ i. renumbered (c.new.ensures.map i) (c.new.ensures.from i) c.args.root) c.remap.ensures.stray
