use Rattle.std.proofs.Common.{true, false, length, set, ap, sym, subst, ◌∙◌}
use Rattle.dcv_arena.specs.Arena.{IsBefore, value_of}
use Rattle.dcv_arena.specs.declared.nodes.Ref.TheVariants.{Place}
use Rattle.dcv_shelf.specs.Copies.{IsCopy}
use Rattle.dcv_shelf.proofs.Copies.{copy_of, lo_stands_before, hi_stands_before, before_count, node_copied}
use Rattle.dcv_shelf.proofs.inclusion.include_node.Goals as goal
use Rattle.dcv_shelf.proofs.inclusion.include_node.Goals.{After-split-lo}

lo_before : (c : After-split-lo) → IsBefore (length c.args.copies.now) c.split-lo.result.0
lo_before c =
    let split = c.split-lo.ensures in
    before_count c.split-lo.result.0 c.requires.count
    (lo_stands_before c.args.from.now split.arena.reduced c.args.place c.requires.place c.split-lo.result.0 split.lo_is_ref
    (λ letter size. split.lo_value letter size ∙ ap (λ slot. value_of c.args.from.now (Place c.args.place) (set letter slot false)) c.level-slot.ensures.level))

hi_before : (c : After-split-lo) → IsBefore (length c.args.copies.now) c.split-lo.result.1
hi_before c =
    let split = c.split-lo.ensures in
    before_count c.split-lo.result.1 c.requires.count
    (hi_stands_before c.args.from.now split.arena.reduced c.args.place c.requires.place c.split-lo.result.1 split.hi_is_ref
    (λ letter size. split.hi_value letter size ∙ ap (λ slot. value_of c.args.from.now (Place c.args.place) (set letter slot true)) c.level-slot.ensures.level))

pub copied-new_lo-requires : goal.copied-new_lo-requires
copied-new_lo-requires c = lo_before c

pub copied-new_hi-requires : goal.copied-new_hi-requires
copied-new_hi-requires c = hi_before (goal.at.copied-new_hi-requires c).After-split-lo

pub returns-clause-copy : goal.returns-clause-copy
returns-clause-copy c =
    let from = c.args.from.now in
    let old = c.args.arena.now in
    let copies = c.args.copies.now in
    let lo = c.split-lo.result.0 in
    let hi = c.split-lo.result.1 in
    let made = c.node.ensures in
    let split = (goal.at.returns-clause-copy c).After-split-lo in
    node_copied from old c.node.new.self c.args.place c.level-slot.result lo hi c.copied-new_lo.result c.copied-new_hi.result c.node.result
    c.level-slot.ensures.level c.split-lo.ensures.value
    (subst (IsCopy from old lo) (sym c.copied-new_lo.ensures) (copy_of from old copies c.requires.copies lo (lo_before split)))
    (subst (IsCopy from old hi) (sym c.copied-new_hi.ensures) (copy_of from old copies c.requires.copies hi (hi_before split)))
    made.is_ref made.level made.value
