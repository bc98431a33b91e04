use Rattle.std.proofs.Common.{sym, subst}
use Rattle.dcv_logic.specs.Connectives.{joins}
use Rattle.dcv_explore.specs.Budget.{IsWithin}
use Rattle.dcv_build.specs.Asked.{asked_row}
use Rattle.dcv_build.specs.declared.asked.Asked.{Asked}
use Rattle.dcv_build.proofs.known.Known.is_within.Goals as goal

pub returns-in-Joined : goal.returns-in-Joined
returns-in-Joined c is =
    subst (λ (asked : Asked). IsWithin (asked_row c.args.self.now.tables asked) c.args.self.now.limits) (sym c.in-Joined.is) (c.is_product_within.ensures is (joins c.in-Joined.field-0))
