use Rattle.std.proofs.Common.{◌<◌, length, subst, refl, ◌∙◌}
use Rattle.dcv_refinement.specs.Lists.{Adds}
use Rattle.dcv_refinement.specs.Leads.{row_at}
use Rattle.dcv_refinement.proofs.AddFacts.{row_above, row_only}
use Rattle.dcv_refinement.proofs.index.rows_above.Goals as goal

pub loop-place-preserved : goal.loop-place-preserved
loop-place-preserved c =
    let arena = c.args.arena.now in
    let rows = c.args.rows.now in
    let was = c.loop-place.invariant in
    let place = c.loop-place.place in
    let inside : place < length rows = c.loop-place-test.true in
    let adds = subst (Adds c.loop-place.lists c.add.new.self (row_at rows place)) c.in_ok-number_of.ensures.number c.in_ok-add.ensures in
    record {
      linked = adds.linked;
      leaves = adds.leaves ∙ was.leaves;
      places = adds.places ∙ was.places;
      above = row_above arena (length rows) (row_at rows) place c.loop-place.lists c.add.new.self adds was.leaves was.places was.above;
      only = row_only arena (length rows) (row_at rows) place c.loop-place.lists c.add.new.self adds rows inside refl was.only;
    }
