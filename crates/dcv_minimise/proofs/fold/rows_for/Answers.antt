use Rattle.std.proofs.Common.{ap, sym, subst₂, ◌∙◌}
use Rattle.std.specs.List.{range_with_len}
use Rattle.dcv_minimise.specs.Folded.{HasKeptRows}
use Rattle.dcv_minimise.proofs.Ends.{blocks_inside}
use Rattle.dcv_minimise.proofs.StayingRows.{stay}
use Rattle.dcv_minimise.proofs.fold.rows_for.Goals as goal

pub returns-then-branch-clause-rows : goal.returns-then-branch-clause-rows
returns-then-branch-clause-rows c =
    let raw = c.args.raw in
    let kept = c.args.states.now in
    let each = c.are_all.ensures c.if-are_all.true ∙ ap (range_with_len 0) c.states.ensures.states in
    subst₂ (HasKeptRows raw c.args.blocks.now kept) (sym c.as_they_are.ensures.arena) (sym c.as_they_are.ensures.rows)
    (stay raw c.states.ensures.raw c.args.blocks.now c.requires.partition kept c.requires.kept each (c.in_ok-has_only_own_nodes.ensures c.if-branch.true))

pub numbers_of-requires-clause-blocks : goal.numbers_of-requires-clause-blocks
numbers_of-requires-clause-blocks c = blocks_inside c.args.raw c.states.ensures.raw c.args.blocks.now c.requires.partition
