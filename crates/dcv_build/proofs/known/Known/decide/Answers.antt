use Rattle.std.proofs.Common.{subst}
use Rattle.dcv_build.specs.Asked.{KnownValue, asked_row, SettlesAsked}
use Rattle.dcv_build.specs.declared.settling.Extent.TheVariants.{Verdict}
use Rattle.dcv_build.proofs.Settled.{serves_decides, settled_decides}
use Rattle.dcv_build.proofs.known.Known.decide.Goals as goal

pub returns-clause-decides : goal.returns-clause-decides
returns-clause-decides c =
    let old = c.args.self.now in
    let row = asked_row old.tables c.args.asked in
    serves_decides row.machine row.parts old.limits c.args.step c.make.result c.make.ensures.serves

pub returns-then-is_none-clause-decides : goal.returns-then-is_none-clause-decides
returns-then-is_none-clause-decides c =
    let old = c.args.self.now in
    settled_decides (asked_row old.tables c.args.asked) old.limits c.args.step c.explore.result (c.is_within.ensures c.if-is_within.true)
    (subst (λ (known : KnownValue). SettlesAsked Verdict known.tables c.args.asked known.limits c.args.step c.explore.result) c.count.ensures c.explore.ensures)
