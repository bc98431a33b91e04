use Rattle.std.proofs.Common.{◌≡◌, length, ap, sym, ◌∙◌, arith}
use Rattle.std.specs.List.{range_with_len}
use Rattle.dcv_minimise.proofs.StayingRows.{in_order}
use Rattle.dcv_minimise.proofs.fold.are_all.Goals as goal

pub returns-then-states-count : goal.returns-then-states-count
returns-then-states-count c is =
    let states = c.args.states.now in
    let size : length states ≡ c.args.count = omega (arith, c.if-states-count.true) in
    in_order 0 states (sym c.stand_in_place.ensures ∙ is) ∙ ap (range_with_len 0) size
