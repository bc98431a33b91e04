use Rattle.std.proofs.Common.{◌≡◌, ◌≤◌, ◌+◌, ◌*◌, filter, length, sym, subst, arith, ◌∙◌}
use Rattle.dcv_build.specs.Bounds.{AreSplit, HasNodesBefore, is_node_at, is_later}
use Rattle.dcv_build.proofs.SlotNodes.{no_more_than, nodes_of_one_more_slot}
use Rattle.dcv_build.proofs.RowParts.{parts_after}
use Rattle.dcv_build.proofs.bounds.has_few_pairs.Goals as goal

pub loop-slot-preserved : goal.loop-slot-preserved
loop-slot-preserved c =
    let first = c.args.first.now in
    let second = c.args.second.now in
    let slot = c.loop-slot.slot in
    let ones = c.loop-slot.ones.keys in
    let others = c.loop-slot.others.keys in
    let inv = c.loop-slot.invariant in
    let one = c.width_at-one.result in
    let other = c.width_at-other.result in
    let most = c.loop-slot.most in
    let nodes : one.nodes ≡ length (filter (is_node_at first.arena slot) ones) =
    c.width_at-one.ensures.nodes ∙ (λ i. length (filter (is_node_at (c.arena.ensures i) slot) (c.as_slice.ensures.keys i))) in
    let later : one.later ≡ length (filter (is_later first.arena slot) ones) =
    c.width_at-one.ensures.later ∙ (λ i. length (filter (is_later (c.arena.ensures i) slot) (c.as_slice.ensures.keys i))) in
    let other_nodes : other.nodes ≡ length (filter (is_node_at second.arena slot) others) =
    c.width_at-other.ensures.nodes ∙ (λ i. length (filter (is_node_at (c.arena-in-loop-slot.ensures i) slot) (c.as_slice-in-loop-slot.ensures.keys i))) in
    let other_later : other.later ≡ length (filter (is_later second.arena slot) others) =
    c.width_at-other.ensures.later ∙ (λ i. length (filter (is_later (c.arena-in-loop-slot.ensures i) slot) (c.as_slice-in-loop-slot.ensures.keys i))) in
    let within : c.with_pairs-most.result ≤ c.args.limit = omega (arith, c.if-most-from.false, c.from.ensures) in
    let count : most + one.nodes * other.nodes + one.nodes * other.later + one.later * other.nodes ≤ c.with_pairs-most.result = c.with_pairs-most.ensures (omega (arith, within, c.ranges.limit)) in
    let more = nodes_of_one_more_slot first second c.requires.slots c.requires.first.arena c.requires.second.arena slot ones others inv.ones inv.others most inv.nodes in
    let counted = subst (HasNodesBefore first second (slot + 1)) (λ i. most + sym nodes i * sym other_nodes i + sym nodes i * sym other_later i + sym later i * sym other_nodes i) more in
    record {
      ones = parts_after first slot ones c.in_ok-ones-2.ones.keys inv.ones
          (subst (λ arena. AreSplit arena slot ones c.in_ok-ones-2.ones.keys) c.arena-in-loop-slot-2.ensures
          (subst (λ parts. AreSplit c.arena-in-loop-slot-2.result.now slot parts c.in_ok-ones-2.ones.keys) c.as_slice-in-loop-slot-2.ensures.keys c.in_ok-ones-2.ensures));
      others = parts_after second slot others c.in_ok-others-2.others.keys inv.others
          (subst (λ arena. AreSplit arena slot others c.in_ok-others-2.others.keys) c.arena-in-loop-slot-3.ensures
          (subst (λ parts. AreSplit c.arena-in-loop-slot-3.result.now slot parts c.in_ok-others-2.others.keys) c.as_slice-in-loop-slot-3.ensures.keys c.in_ok-others-2.ensures));
      nodes = no_more_than first second c.requires.slots (slot + 1) _ c.with_pairs-most.result counted count;
      within = within;
    }

pub returns : goal.returns
returns c on =
    let first = c.args.first.now in
    let second = c.args.second.now in
    let inv = c.loop-slot.invariant in
    let most = c.loop-slot.most in
    let ends : c.loop-slot.slot ≡ first.stored.slots = omega (arith, c.loop-slot-test.false, c.loop-slot.auto.slot-end, c.slots-slot-end.ensures.slots) in
    no_more_than first second c.requires.slots first.stored.slots most c.args.limit (subst (λ slot. HasNodesBefore first second slot most) ends inv.nodes) inv.within
