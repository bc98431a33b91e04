use Rattle.std.proofs.Common.{refl, arith}
use Rattle.std.proofs.lemmas.List.Filters.{length-filter_both}
use Rattle.dcv_build.specs.Bounds.{is_node_at, is_later}
use Rattle.dcv_build.proofs.bounds.width_at.Goals as goal

pub overflow_sub-result : goal.overflow_sub-result
overflow_sub-result c =
    let arena = c.args.arena.now in
    omega (arith, c.nodes_at-nodes.ensures, length-filter_both (is_node_at arena c.args.slot) (is_later arena c.args.slot) (λ part. refl) c.args.parts.now)

pub returns-clause-later : goal.returns-clause-later
returns-clause-later c =
    let arena = c.args.arena.now in
    omega (arith, c.nodes_at-nodes.ensures, length-filter_both (is_node_at arena c.args.slot) (is_later arena c.args.slot) (λ part. refl) c.args.parts.now)
