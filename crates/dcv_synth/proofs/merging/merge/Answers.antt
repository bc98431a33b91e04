use Rattle.std.proofs.Common.{◌-◌, length, sym, ap, subst, ◌∙◌, arith}
use Rattle.dcv_arena.specs.declared.nodes.Ref.TheVariants.{Place}
use Rattle.dcv_synth.specs.Merged.{IsMerged, AreMerged}
use Rattle.dcv_synth.proofs.Merges.{merged_longer, merged_more}
use Rattle.dcv_synth.proofs.merging.merge.Goals as goal

pub merged_node-requires-clause-merged : goal.merged_node-requires-clause-merged
merged_node-requires-clause-merged c =
    let is = c.loop-place.invariant in
    let old = c.args.answers.now.arena.now in
    let here = subst (λ slots. AreMerged c.args.part (old.slots - slots) old c.args.answers.now.win.now c.loop-place.arena c.loop-place.merged.items) (sym is.slots) is.merged in
    subst (AreMerged c.args.part (old.slots - c.loop-place.arena.slots) old c.args.answers.now.win.now c.loop-place.arena) (sym c.deref.ensures.value) here

pub loop-place-preserved : goal.loop-place-preserved
loop-place-preserved c =
    let is = c.loop-place.invariant in
    let old = c.args.answers.now.arena.now in
    let m = old.slots - c.args.arena.now.slots in
    let kept = c.merged_node.ensures.kept in
    let win = c.args.answers.now.win.now in
    let ref = c.in_ok-merged_node.field-0 in
    let new = c.merged_node.new.arena in
    let here : IsMerged c.args.part m old win new (Place c.loop-place.place) ref =
    subst (λ slots. IsMerged c.args.part (old.slots - slots) old win new (Place c.loop-place.place) ref) is.slots c.in_ok-merged_node.ensures.merged in
    let items = c.in_ok-push.ensures.items in
    let count = is.count in
    record {
      slots = kept.slots ∙ is.slots;
      limit = kept.limit ∙ is.limit;
      few = c.merged_node.ensures.few;
      count = omega (arith, count, ap length items, merged_longer c.args.part m old win c.loop-place.merged.items ref);
      merged = merged_more c.args.part m old win c.loop-place.arena new c.loop-place.merged.items c.push.new.self.items c.loop-place.place ref kept is.merged count items here;
    }
