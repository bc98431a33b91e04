use Rattle.std.proofs.Common.{◌+◌, sym, subst}
use Rattle.dcv_certify.proofs.Splits.{SplitSoFar, only_none, none_moved, one_more_split, all_split}
use Rattle.dcv_certify.proofs.split.split.Goals as goal

pub loop-entry-init : goal.loop-entry-init
loop-entry-init c =
    let moved = c.in_ok-moved.ensures.items_if_clones_equal (only_none _ (λ x is. is)) in
    subst (λ new. SplitSoFar c.args.old.now c.args.column.now 0 new c.in_ok-moved.moved.items) (sym c.new-new.ensures.items)
    (none_moved c.args.old.now c.args.column.now c.in_ok-moved.moved.items moved)

pub loop-entry-preserved : goal.loop-entry-preserved
loop-entry-preserved c =
    subst (λ new. SplitSoFar c.args.old.now c.args.column.now (c.loop-entry.entry + 1) new c.number-number.new.moved.items) (sym c.in_ok-push.ensures.items)
    (one_more_split c.args.old.now c.args.column.now c.loop-entry.entry c.loop-entry.new.items c.loop-entry.moved.items c.number-number.new.moved.items c.number-number.result
    c.loop-entry.invariant c.loop-entry-test.true c.number-number.ensures.least c.number-number.ensures.moved)

pub returns : goal.returns
returns c = all_split c.args.old.now c.args.column.now c.loop-entry.entry c.loop-entry.new.items c.loop-entry.moved.items c.loop-entry.invariant c.loop-entry-test.false
