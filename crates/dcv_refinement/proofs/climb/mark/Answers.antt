use Rattle.std.proofs.Common.{arith}
use Rattle.dcv_refinement.proofs.MarkFacts.{MarksBack, marks_one_more, all_marked_back}
use Rattle.dcv_refinement.proofs.climb.mark.Goals as goal

pub entries-preserved : goal.entries-preserved
entries-preserved c =
    let entries = c.args.entries.now in
    let was = c.entries.invariant in
    let before : MarksBack entries c.args.last c.args.marked.now c.entries.next c.entries.marked =
    record { within = was.within; listed = was.listed; done = was.done; only = was.only; stay = was.stay } in
    let after = marks_one_more entries c.requires.earlier c.args.last c.args.marked.now c.entries.next c.entries.marked c.insert.new.self c.entries-test.true c.in_ok-insert.ensures.numbers before in
    record { within = after.within; listed = after.listed; done = after.done; only = after.only; stay = after.stay; once = c.insert.ensures.once }

pub returns-clause-all : goal.returns-clause-all
returns-clause-all c =
    let entries = c.args.entries.now in
    let was = c.entries.invariant in
    let before : MarksBack entries c.args.last c.args.marked.now c.entries.next c.entries.marked =
    record { within = was.within; listed = was.listed; done = was.done; only = was.only; stay = was.stay } in
    all_marked_back entries c.requires.earlier c.args.last c.args.marked.now c.entries.next c.entries.marked (omega (arith, c.entries-test.false)) before
