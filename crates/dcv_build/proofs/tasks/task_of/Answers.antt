use Rattle.dcv_build.proofs.AtSteps.{not_waits, star_waits, exists_waits, joined_waits, chop_waits}
use Rattle.dcv_build.proofs.tasks.task_of.Goals as goal

pub newest-requires : goal.newest-requires
newest-requires c =
    let is = c.requires.waiting in
    not_waits c.args.core.now is.limits c.args.step is.counts c.in-Not.field-0 c.requires.core c.in-Not.ensures is.shelf c.args.waiting.now.items is.built

pub two_newest-first-requires : goal.two_newest-first-requires
two_newest-first-requires c =
    let is = c.requires.waiting in
    joined_waits c.args.core.now is.limits c.args.step is.counts c.in-Joined.connective c.in-Joined.field-1 c.in-Joined.field-2 c.requires.core c.in-Joined.ensures is.shelf c.args.waiting.now.items is.built

pub two_newest-first-requires-in-Chop : goal.two_newest-first-requires-in-Chop
two_newest-first-requires-in-Chop c =
    let is = c.requires.waiting in
    chop_waits c.args.core.now is.limits c.args.step is.counts c.in-Chop.field-0 c.in-Chop.field-1 c.requires.core c.in-Chop.ensures is.shelf c.args.waiting.now.items is.built

pub newest-requires-in-Star : goal.newest-requires-in-Star
newest-requires-in-Star c =
    let is = c.requires.waiting in
    star_waits c.args.core.now is.limits c.args.step is.counts c.in-Star.field-0 c.requires.core c.in-Star.ensures is.shelf c.args.waiting.now.items is.built

pub newest-requires-in-Exists : goal.newest-requires-in-Exists
newest-requires-in-Exists c =
    let is = c.requires.waiting in
    exists_waits c.args.core.now is.limits c.args.step is.counts c.in-Exists.field-0 c.requires.core c.in-Exists.ensures is.shelf c.args.waiting.now.items is.built
