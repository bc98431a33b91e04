use Rattle.std.proofs.Common.{◌+◌, length, sym, ap, subst, ◌∙◌, arith}
use Rattle.std.proofs.lemmas.List.{length_push}
use Rattle.std.proofs.lemmas.Option.{get_or_from_slice_get}
use Rattle.dcv_arena.specs.declared.nodes.Ref.TheVariants.{Leaf}
use Rattle.dcv_stuck.specs.Sink.{HasRows}
use Rattle.dcv_stuck.proofs.Sinks.{no_rows, more_rows, leads_inside, value_by}
use Rattle.dcv_stuck.proofs.sink.rows_of.Goals as goal

pub loop-state-init : goal.loop-state-init
loop-state-init c = record {
  rows = no_rows c.args.raw.now c.new-new.result.own c.new-rows.result.items c.new-new.ensures.arena (c.new-new.ensures.slots ∙ (λ i. (c.arena.ensures.arena i).slots)) c.new-rows.ensures.items;
  count = ap length c.new-rows.ensures.items;
  from = c.new-new.ensures.from ∙ c.arena.ensures.arena;
  numbers = c.new-new.ensures.map;
}

pub renumber-requires-clause-map : goal.renumber-requires-clause-map
renumber-requires-clause-map c =
    let raw = c.args.raw.now in
    let was = c.loop-state.invariant in
    let state = c.loop-state.state in
    leads_inside raw c.slots.ensures.raw c.loop-state.new.numbers c.loop-state.new.from state c.row.result (was.numbers ∙ c.requires) was.from
    (get_or_from_slice_get raw.rows state c.row.result (Leaf 0) c.row.ensures.row) (omega (arith, c.loop-state-test.true, c.states-state-end.ensures.states))
    c.loop-state.new.own.slots was.rows.slots

pub loop-state-preserved : goal.loop-state-preserved
loop-state-preserved c =
    let raw = c.args.raw.now in
    let before = c.loop-state.new.own in
    let after = c.renumber.new.self.own in
    let was = c.loop-state.invariant in
    let rows = c.loop-state.rows.items in
    let state = c.loop-state.state in
    let value = value_by raw c.slots.ensures.raw c.loop-state.new.numbers c.loop-state.new.from state c.row.result (was.numbers ∙ c.requires) was.from
    (get_or_from_slice_get raw.rows state c.row.result (Leaf 0) c.row.ensures.row) (omega (arith, c.loop-state-test.true, c.states-state-end.ensures.states))
    before.slots was.rows.slots after c.in_ok-row.row (length rows) (sym was.count) c.in_ok-row.ensures.value in
    record {
      rows = subst (HasRows raw after) (sym c.in_ok-push.ensures.items)
          (more_rows raw before after rows c.in_ok-row.row was.rows c.in_ok-row.ensures.arena c.in_ok-row.ensures.kept c.in_ok-row.ensures.is_ref value);
      count = ap length c.in_ok-push.ensures.items ∙ length_push rows c.in_ok-row.row ∙ ap (λ n. n + 1) was.count;
      from = c.in_ok-row.ensures.from ∙ was.from;
      numbers = c.in_ok-row.ensures.map ∙ was.numbers;
    }
