use Rattle.std.proofs.Common.{arith}
use Rattle.dcv_sweep.proofs.Swept.{swept_none, has_room, swept_more, is_summary}
use Rattle.dcv_sweep.proofs.sweeping.sweep.Goals as goal

pub loop-init : goal.loop-init
loop-init c =
    let none = c.default-summary.ensures in
    swept_none c.args.limits c.args.seed c.new-draw.result c.default-summary.result c.new-draw.ensures
    (λ i. record { formulas = none.0 i; valid = none.1.0 i; satisfiable = none.1.1.0 i; over = none.1.1.1.0 i; states = none.1.1.1.1 i })

pub one_more-requires : goal.one_more-requires
one_more-requires c =
    has_room c.args.limits c.args.seed c.loop.counter c.loop.draw c.loop.summary c.loop.invariant (omega (arith, c.loop-test.true, c.ranges.count.fits))

pub loop-preserved : goal.loop-preserved
loop-preserved c =
    swept_more c.args.limits c.args.seed c.loop.counter c.loop.draw c.loop.summary c.loop.invariant c.one_more.new.draw c.one_more.new.summary c.in_ok-one_more.ensures

pub returns : goal.returns
returns c =
    is_summary c.args.limits c.args.seed c.loop.counter c.loop.draw c.loop.summary c.loop.invariant c.args.count
    (omega (arith, c.loop-test.false, c.loop.auto.counter-end))
