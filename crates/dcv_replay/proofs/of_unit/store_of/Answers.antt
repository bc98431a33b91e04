use Rattle.std.proofs.Common.{arith}
use Rattle.dcv_replay.proofs.Runs.{if_ok_weaker}
use Rattle.dcv_replay.proofs.UnitReplays.{assignments_placed, store_from_reset}
use Rattle.dcv_replay.proofs.of_unit.store_of.Goals as goal

pub reset_store-requires-clause-placed : goal.reset_store-requires-clause-placed
reset_store-requires-clause-placed c =
    assignments_placed c.args.unit.now c.keeps_the_rules.ensures.form c.args.count (omega (arith, c.requires.count)) c.reset.result.now.assignments.items c.reset.ensures.assignments

pub returns : goal.returns
returns c =
    if_ok_weaker c.reset_store.result (λ store reset. store_from_reset c.args.unit.now c.args.count c.reset.result.now.assignments.items c.reset.ensures.assignments reset)
    c.reset_store.ensures
