use Rattle.std.proofs.Common.{◌≡◌, Err, suc, ◌+◌, ◌-◌, ◌<◌, ◌≤◌, length, sym, ap, subst, ◌∙◌, refl, arith}
use Rattle.dcv_arena.specs.Arena.{IsBefore, level_of}
use Rattle.dcv_arena.specs.declared.nodes.Ref.{Ref}
use Rattle.dcv_arena.specs.declared.nodes.Ref.TheVariants.{Leaf, Place}
use Rattle.dcv_synth.specs.Answered.{answer_at}
use Rattle.dcv_synth.specs.Merged.{part_of, IsMerged, merged_at}
use Rattle.dcv_synth.proofs.Answering.{ref_answer}
use Rattle.dcv_synth.proofs.Forced.{children_before}
use Rattle.dcv_synth.proofs.Merges.{leaf_merged, ref_merged, node_merged}
use Rattle.dcv_synth.proofs.merging.merged_node.Goals as goal
use Rattle.dcv_synth.proofs.merging.merged_node.Goals.{After-merged_ref-hi}

pub returns-then-slot-slots-clause-merged : goal.returns-then-slot-slots-clause-merged
returns-then-slot-slots-clause-merged c =
    let old = c.args.answers.now.arena.now in
    let win = c.args.answers.now.win.now in
    let answers = c.args.answers.now.answers.items in
    let m = old.slots - c.args.arena.now.slots in
    let root = Place c.args.place in
    let slots : c.args.arena.now.slots + m ≡ old.slots = omega (arith, c.requires.inputs) in
    let deep : c.args.arena.now.slots ≤ level_of old root = omega (arith, c.if-slot-slots.true, c.slots.ensures.slots, c.level-slot.ensures.level) in
    let number : c.of-then-slot-slots.result ≡ part_of c.args.part (answer_at win answers root) = c.of-then-slot-slots.ensures ∙ ap (part_of c.args.part) c.of.ensures in
    subst (λ leaf. IsMerged c.args.part m old win c.args.arena.now root (Leaf leaf)) (sym number)
    (leaf_merged c.args.part m old win c.args.arena.now root (answer_at win answers root) slots deep
    (ref_answer old win answers root c.requires.answers.each (subst (λ count. c.args.place < count) (sym c.requires.answers.places) c.requires.place)))

before : (c : After-merged_ref-hi) → IsBefore (length c.args.merged.now) c.split-lo.result.0 × IsBefore (length c.args.merged.now) c.split-lo.result.1
before c =
    let split = c.split-lo.ensures in
    children_before c.args.answers.now.arena.now c.args.place c.level-slot.result (length c.args.merged.now) c.split-lo.result.0 c.split-lo.result.1 c.level-slot.ensures.arena.reduced
    c.requires.place c.requires.before
    (record { slot = c.level-slot.ensures.level; lo_is_ref = split.lo_is_ref; hi_is_ref = split.hi_is_ref; lo_value = split.lo_value; hi_value = split.hi_value })

-- what a child became
child_is : (c : After-merged_ref-hi) (child merged : Ref) → merged ≡ merged_at c.args.part c.args.answers.now.win.now c.args.answers.now.answers.items c.args.merged.now child
    → IsBefore (length c.args.merged.now) child
    → IsMerged c.args.part (c.args.answers.now.arena.now.slots - c.args.arena.now.slots) c.args.answers.now.arena.now c.args.answers.now.win.now c.args.arena.now child merged
child_is c child merged is earlier =
    let old = c.args.answers.now.arena.now in
    let m = old.slots - c.args.arena.now.slots in
    let slots : c.args.arena.now.slots + m ≡ old.slots = omega (arith, c.requires.inputs) in
    subst (IsMerged c.args.part m old c.args.answers.now.win.now c.args.arena.now child) (sym is)
    (ref_merged c.args.part m old c.args.answers.now.win.now c.args.arena.now c.args.answers.now.answers.items c.args.merged.now child slots c.requires.merged earlier)

lo_is : (c : After-merged_ref-hi)
    → IsMerged c.args.part (c.args.answers.now.arena.now.slots - c.args.arena.now.slots) c.args.answers.now.arena.now c.args.answers.now.win.now c.args.arena.now
    c.split-lo.result.0 c.merged_ref-lo.result
lo_is c = child_is c c.split-lo.result.0 c.merged_ref-lo.result c.merged_ref-lo.ensures (before c).0

hi_is : (c : After-merged_ref-hi)
    → IsMerged c.args.part (c.args.answers.now.arena.now.slots - c.args.arena.now.slots) c.args.answers.now.arena.now c.args.answers.now.win.now c.args.arena.now
    c.split-lo.result.1 c.merged_ref-hi.result
hi_is c = child_is c c.split-lo.result.1 c.merged_ref-hi.result c.merged_ref-hi.ensures (before c).1

inner : (c : After-merged_ref-hi) → c.level-slot.result < c.args.arena.now.slots
inner c = omega (arith, c.if-slot-slots.false, c.slots.ensures.slots)

pub node-requires-clause-lo : goal.node-requires-clause-lo
node-requires-clause-lo c = (lo_is (goal.at.node-requires-clause-lo c).After-merged_ref-hi).is_ref

pub node-requires-clause-hi : goal.node-requires-clause-hi
node-requires-clause-hi c = (hi_is (goal.at.node-requires-clause-hi c).After-merged_ref-hi).is_ref

pub node-requires-clause-lo_level : goal.node-requires-clause-lo_level
node-requires-clause-lo_level c =
    let here = (goal.at.node-requires-clause-lo_level c).After-merged_ref-hi in
    let level = c.level-slot.ensures.node c.args.place refl in
    (lo_is here).level (suc c.level-slot.result) (omega (arith, c.split-lo.ensures.lo_level level)) (omega (arith, inner here))

pub node-requires-clause-hi_level : goal.node-requires-clause-hi_level
node-requires-clause-hi_level c =
    let here = (goal.at.node-requires-clause-hi_level c).After-merged_ref-hi in
    let level = c.level-slot.ensures.node c.args.place refl in
    (hi_is here).level (suc c.level-slot.result) (omega (arith, c.split-lo.ensures.hi_level level)) (omega (arith, inner here))

pub returns-in-Ok-clause-merged : goal.returns-in-Ok-clause-merged
returns-in-Ok-clause-merged c =
    let here = (goal.at.returns-in-Ok-clause-merged c).After-merged_ref-hi in
    let old = c.args.answers.now.arena.now in
    let split = c.split-lo.ensures in
    let deep = c.level-slot.ensures.node c.args.place refl in
    let kept = c.node.ensures.kept in
    node_merged c.args.part (old.slots - c.args.arena.now.slots) old c.args.answers.now.win.now c.args.arena.now c.node.new.self c.args.place c.level-slot.result
    c.split-lo.result.0 c.split-lo.result.1 c.merged_ref-lo.result c.merged_ref-hi.result c.in-Ok.node
    (record { slot_is = c.level-slot.ensures.level; inner = deep; lo_level = split.lo_level deep; hi_level = split.hi_level deep; value = split.value })
    (omega (arith, inner here, kept.slots)) kept (lo_is here) (hi_is here) c.in-Ok.ensures.is_ref c.in-Ok.ensures.level c.in-Ok.ensures.value

pub unreachable-requires : goal.unreachable-requires
unreachable-requires c =
    let full = (c.node.ensures.full c.in-Full.limit).0 (c.in-Err.is ∙ ap Err c.in-Full.is) in
    let few = c.requires.few in
    absurd (omega (arith, full.2, few, c.requires.room, c.requires.place))
