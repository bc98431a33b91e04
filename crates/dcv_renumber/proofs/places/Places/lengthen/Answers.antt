use Rattle.std.proofs.Common.{subst, arith}
use Rattle.std.specs.Result.{is_ok}
use Rattle.dcv_renumber.specs.Became.{HasBecome}
use Rattle.dcv_renumber.proofs.PlaceFacts.{lengthened}
use Rattle.dcv_renumber.proofs.places.Places.lengthen.Goals as goal

pub returns : goal.returns
returns c place new there =
    subst (λ became. HasBecome became place new) c.self.view_is
    (lengthened c.self.inside.round c.self.invariant.0 (is_ok c.resize.result) c.self.inside.became.items c.resize.new.self.items c.args.nodes _ (omega arith) c.resize.ensures.items place new there)
