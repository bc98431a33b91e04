use Rattle.std.proofs.Common.{◌<◌, length, refl, arith}
use Rattle.dcv_refinement.proofs.AddFacts.{GoesTo, AreFirstAbove, one_above}
use Rattle.dcv_refinement.proofs.index.nodes_above.Goals as goal

pub loop-place-preserved : goal.loop-place-preserved
loop-place-preserved c =
    let arena = c.args.arena.now in
    let count = c.args.leaves in
    let was = c.loop-place.invariant in
    let place = c.loop-place.place in
    let slot = c.level.result in
    let lo = c.split-lo.result.0 in
    let hi = c.split-lo.result.1 in
    let all = c.split-lo.ensures in
    let inner = c.level.ensures.node place refl in
    let goes : GoesTo arena place slot lo hi = record {
      lo_is_ref = all.lo_is_ref;
      hi_is_ref = all.hi_is_ref;
      slot_is = c.level.ensures.level;
      inner = inner;
      lo_level = all.lo_level inner;
      hi_level = all.hi_level inner;
      value = all.value;
    } in
    let nodes : place < length arena.nodes = omega (arith, c.len-place-end.ensures.len, c.loop-place-test.true) in
    let before : AreFirstAbove arena count place c.loop-place.nodes = record { linked = was.linked; leaves = was.leaves; places = was.places; above = was.above; only = was.only } in
    let after = one_above arena count place slot lo hi nodes goes c.loop-place.nodes c.add.new.self c.add-in-loop-place.new.self c.in_ok-add.ensures c.in_ok-add-2.ensures before in
    record { linked = after.linked; leaves = after.leaves; places = after.places; above = after.above; only = after.only }
