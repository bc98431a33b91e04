use Rattle.std.proofs.Common.{sym, subst, ◌∙◌, refl}
use Rattle.dcv_arena.specs.declared.nodes.Ref.TheVariants.{Place}
use Rattle.dcv_synth.specs.Forced.{picked, forced_at, IsForced}
use Rattle.dcv_synth.proofs.Forced.{children_before, forced_node, forced_ref}
use Rattle.dcv_synth.proofs.forcing.Forcing.is_node_forced.Goals as goal

pub returns : goal.returns
returns c =
    let self = c.args.self.now in
    let arena = self.arena.now in
    let split = c.split-lo.ensures in
    let lo = c.split-lo.result.0 in
    let hi = c.split-lo.result.1 in
    let reduced = c.level-slot.ensures.arena.reduced in
    let inner = c.level-slot.ensures.node c.args.place refl in
    let before = children_before arena c.args.place c.level-slot.result c.args.place lo hi reduced c.requires.place refl
    (record { slot = c.level-slot.ensures.level; lo_is_ref = split.lo_is_ref; hi_is_ref = split.hi_is_ref; lo_value = split.lo_value; hi_value = split.hi_value }) in
    subst (IsForced self.inputs arena self.lost.items (Place c.args.place))
    (sym (c.pick.ensures ∙ (λ i. picked self.inputs c.level-slot.result (c.is_forced.ensures i) (c.is_forced-2.ensures i))))
    (forced_node self.inputs arena self.lost.items c.args.place c.level-slot.result lo hi (forced_at self.lost.items self.forced.items lo) (forced_at self.lost.items self.forced.items hi)
    (record { slot_is = c.level-slot.ensures.level; inner = inner; lo_level = split.lo_level inner; hi_level = split.hi_level inner; value = split.value })
    (forced_ref self.inputs arena self.lost.items self.forced.items c.args.place lo c.requires.before before.0)
    (forced_ref self.inputs arena self.lost.items self.forced.items c.args.place hi c.requires.before before.1))
