use Rattle.std.proofs.Common.{not, false, get_or, arith}
use Rattle.std.proofs.lemmas.List.{get_or_default}
use Rattle.std.proofs.lemmas.List.Edits.{map_over_more}
use Rattle.dcv_dfa.proofs.raw.turn.Goals as goal

pub loop-flag-preserved : goal.loop-flag-preserved
loop-flag-preserved c =
    let flags = c.loop-flag.flags in
    let i = c.loop-flag.flag-index in
    map_over_more not c.args.flags.now flags i (get_or flags i false) c.loop-flag-test.true c.loop-flag.invariant
    (get_or_default flags i false (get_or flags i false) (omega (arith, c.loop-flag.auto.flags, c.loop-flag-test.true)))
