use Rattle.std.proofs.Common.{◌+◌, length, get_or, sym, ap, subst, ◌∙◌}
use Rattle.std.proofs.lemmas.List.{length_push}
use Rattle.std.proofs.lemmas.Option.{get_or_from_slice_get}
use Rattle.dcv_arena.specs.declared.nodes.Ref.TheVariants.{Leaf}
use Rattle.dcv_minimise.specs.Folded.{HasRows}
use Rattle.dcv_minimise.proofs.RowFacts.{no_rows, more_rows, value_by, leads_inside}
use Rattle.dcv_minimise.proofs.fold.rows_of.Goals as goal

pub loop-state-init : goal.loop-state-init
loop-state-init c = record {
  rows = no_rows c.args.raw.now c.args.states.now c.args.numbers.now c.new-new.result.own c.in_ok-rows.rows.items c.new-new.ensures.arena
      (c.new-new.ensures.slots ∙ (λ i. (c.arena.ensures.arena i).slots)) c.new-new.ensures.empty c.in_ok-rows.ensures.items;
  count = ap length c.in_ok-rows.ensures.items;
  from = c.new-new.ensures.from ∙ c.arena.ensures.arena;
  new = c.new-new.ensures.map;
}

pub renumber-requires-clause-map : goal.renumber-requires-clause-map
renumber-requires-clause-map c letter size =
    let raw = c.args.raw.now in
    let state = get_or c.args.states.now c.loop-state.state-index 0 in
    let was = c.loop-state.invariant in
    leads_inside raw c.slots.ensures.raw c.args.numbers.now c.loop-state.new.numbers c.loop-state.new.from state c.row.result was.new was.from
    (get_or_from_slice_get raw.rows state c.row.result (Leaf 0) c.row.ensures.row) (c.requires.states c.loop-state.state-index 0 c.loop-state-test.true) c.requires.numbers
    c.loop-state.new.own.slots was.rows.slots letter size

pub loop-state-preserved : goal.loop-state-preserved
loop-state-preserved c =
    let raw = c.args.raw.now in
    let states = c.args.states.now in
    let state = get_or states c.loop-state.state-index 0 in
    let before = c.loop-state.new.own in
    let was = c.loop-state.invariant in
    let rows = c.loop-state.rows.items in
    let at = ap (λ place. get_or states place 0) was.count in
    record {
      rows = subst (HasRows raw states c.args.numbers.now c.renumber.new.self.own) (sym c.in_ok-push.ensures.items)
          (more_rows raw states c.args.numbers.now before c.renumber.new.self.own rows c.in_ok-row.row was.rows c.in_ok-row.ensures.arena c.in_ok-row.ensures.kept c.in_ok-row.ensures.is_ref
          (value_by raw states c.args.numbers.now c.loop-state.new.numbers c.loop-state.new.from c.renumber.new.self.own (length rows) state c.row.result c.in_ok-row.row
          was.new was.from at (get_or_from_slice_get raw.rows state c.row.result (Leaf 0) c.row.ensures.row) before.slots c.in_ok-row.ensures.value)
          c.in_ok-row.ensures.adds);
      count = ap length c.in_ok-push.ensures.items ∙ length_push rows c.in_ok-row.row ∙ ap (λ n. n + 1) was.count;
      from = c.in_ok-row.ensures.from ∙ was.from;
      new = c.in_ok-row.ensures.map ∙ was.new;
    }
