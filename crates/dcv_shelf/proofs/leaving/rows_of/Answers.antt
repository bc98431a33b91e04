use Rattle.std.proofs.Common.{get_or, ◌+◌, ◌<◌, Err, length, sym, ap, subst, ◌∙◌, arith}
use Rattle.std.proofs.lemmas.List.{length_push}
use Rattle.dcv_renumber.specs.Renumbered.{renumbered}
use Rattle.dcv_shelf.specs.Stored.{HasRows}
use Rattle.dcv_shelf.proofs.CopiedRows.{no_state, no_rows, more_rows, renumbered_here, value_by, leads_inside}
use Rattle.dcv_shelf.proofs.RowRoom.{row_has_room}
use Rattle.dcv_shelf.proofs.leaving.rows_of.Goals as goal

pub loop-state-init : goal.loop-state-init
loop-state-init c = record {
  rows = no_rows c.args.arena.now c.args.stored.now c.new-own.result c.new-rows.result.items c.new-own.ensures.arena c.new-own.ensures.slots c.new-own.ensures.empty c.new-rows.ensures.items;
  count = ap length c.new-rows.ensures.items;
  limit = c.new-own.ensures.limit;
  from = c.new-remapping.ensures.from;
  new = c.new-remapping.ensures.map;
  holds = c.new-remapping.ensures.holds c.new-own.result;
}

pub remap-requires-clause-map : goal.remap-requires-clause-map
remap-requires-clause-map c =
    let was = c.loop-state.invariant in
    leads_inside c.args.arena.now c.args.stored.now c.requires.stored c.args.numbers.now c.loop-state.remapping.numbers c.loop-state.remapping.from c.requires.numbers was.new was.from
    c.deref-state-items.result.now c.deref-state-items.ensures.value c.loop-state.state-index c.loop-state-test.true c.loop-state.own.slots was.rows.slots

pub loop-state-preserved : goal.loop-state-preserved
loop-state-preserved c =
    let from = c.args.arena.now in
    let stored = c.args.stored.now in
    let before = c.loop-state.own in
    let after = c.remap.new.arena in
    let was = c.loop-state.invariant in
    let rows = c.loop-state.rows.items in
    let value = value_by from stored c.requires.stored c.args.numbers.now c.loop-state.remapping.numbers c.loop-state.remapping.from c.requires.numbers was.new was.from
    c.deref-state-items.result.now c.deref-state-items.ensures.value c.loop-state.state-index c.loop-state-test.true before.slots was.rows.slots after c.in-Ok.row c.in-Ok.ensures.value
    (length rows) was.count in
    record {
      rows = subst (HasRows from stored after) (sym c.in_ok-push.ensures.items)
          (more_rows from stored before after rows c.in-Ok.row was.rows c.in-Ok.ensures.arena c.in-Ok.ensures.kept c.in-Ok.ensures.is_ref value c.in-Ok.ensures.adds);
      count = ap length c.in_ok-push.ensures.items ∙ length_push rows c.in-Ok.row ∙ ap (λ n. n + 1) was.count;
      limit = c.in-Ok.ensures.kept.limit ∙ was.limit;
      from = c.in-Ok.ensures.from ∙ was.from;
      new = c.in-Ok.ensures.map ∙ was.new;
      holds = c.in-Ok.ensures.holds;
    }

-- it would have more nodes than the table
pub unreachable-requires : goal.unreachable-requires
unreachable-requires c =
    let from = c.args.arena.now in
    let stored = c.args.stored.now in
    let was = c.loop-state.invariant in
    let remapping = c.loop-state.remapping in
    let states = c.deref-state-items.result.now in
    let place = c.loop-state.state-index in
    let within : place < length stored.states.items = omega (arith, c.loop-state-test.true, ap length c.deref-state-items.ensures.value) in
    let full = c.remap.ensures.full c.in-Err-Full.field-0-0 (c.in-Err-Full.is ∙ ap Err c.in-Err-Full.field-0-is) in
    let room = row_has_room from stored c.requires.stored c.loop-state.own c.loop-state.rows.items was.rows (omega (arith, within, was.count)) place
    (renumbered remapping.numbers remapping.from (get_or states place no_state).row) within
    (λ letter size. renumbered_here from stored c.requires.stored c.args.numbers.now remapping.numbers remapping.from c.requires.numbers was.new was.from states
    c.deref-state-items.ensures.value place c.loop-state-test.true stored.slots (λ i. stored.slots) letter size) in
    omega (arith, full.0, full.1, room, was.limit)
