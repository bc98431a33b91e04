use Rattle.std.proofs.Common.{◌∙◌}
use Rattle.dcv_dfa.proofs.Splits.{line-split}
use Rattle.dcv_dfa.proofs.node_lines.Numbering.line.Goals as goal

pub returns : goal.returns
returns c =
    let at = c.split-lo.ensures in
    (λ i. record { slot = c.level-slot.result; hi = c.child.ensures i; lo = c.child-2.ensures i })
    ∙ line-split c.args.self.now.arena.now c.level-slot.ensures.arena.reduced c.args.place c.level-slot.result c.split-lo.result.0 c.split-lo.result.1
    c.args.self.now.places.keys c.requires.place
    (record { slot = c.level-slot.ensures.level; lo_is_ref = at.lo_is_ref; hi_is_ref = at.hi_is_ref; lo_value = at.lo_value; hi_value = at.hi_value })
