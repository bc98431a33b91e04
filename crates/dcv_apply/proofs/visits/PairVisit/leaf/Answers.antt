use Rattle.std.proofs.Common.{[], ◌∷◌, sym, subst}
use Rattle.std.proofs.lemmas.List.Elements.{All-head, All-tail}
use Rattle.dcv_apply.specs.Pairs.{operand_at}
use Rattle.dcv_apply.specs.Sources.{IsFrom}
use Rattle.dcv_apply.proofs.visits.PairVisit.leaf.Goals as goal

pub leaf_of_two-requires-clause-one : goal.leaf_of_two-requires-clause-one
leaf_of_two-requires-clause-one g c =
    let From = IsFrom c.args.operation.now.sources c.args.slots in
    let pair = c.args.self.now in
    subst From (sym c.one.ensures) (All-head From (operand_at pair.one_kind pair.one) (operand_at pair.other_kind pair.other ∷ []) c.requires.operands)

pub leaf_of_two-requires-clause-other : goal.leaf_of_two-requires-clause-other
leaf_of_two-requires-clause-other g c =
    let From = IsFrom c.args.operation.now.sources c.args.slots in
    let pair = c.args.self.now in
    subst From (sym c.other.ensures) (All-head From (operand_at pair.other_kind pair.other) [] (All-tail From (operand_at pair.one_kind pair.one) (operand_at pair.other_kind pair.other ∷ []) c.requires.operands))
