use Rattle.std.proofs.Common.{[], ◌∷◌, sym, subst}
use Rattle.std.proofs.lemmas.List.Elements.{All-head, All-tail}
use Rattle.dcv_apply.specs.Pairs.{operand_at}
use Rattle.dcv_apply.specs.Sources.{IsIn, IsFrom}
use Rattle.dcv_apply.proofs.visits.PairVisit.first_slot.Goals as goal

pub first_slot_of-first-requires : goal.first_slot_of-first-requires
first_slot_of-first-requires c =
    let In = IsIn c.args.sources.now in
    let pair = c.args.self.now in
    subst In (sym c.one.ensures) (All-head In (operand_at pair.one_kind pair.one) (operand_at pair.other_kind pair.other ∷ []) c.requires)

pub first_slot_of-requires : goal.first_slot_of-requires
first_slot_of-requires c =
    let In = IsIn c.args.sources.now in
    let pair = c.args.self.now in
    subst In (sym c.other.ensures) (All-head In (operand_at pair.other_kind pair.other) [] (All-tail In (operand_at pair.one_kind pair.one) (operand_at pair.other_kind pair.other ∷ []) c.requires))

pub returns-clause-last : goal.returns-clause-last
returns-clause-last c slot within from =
    let From = IsFrom c.args.sources.now slot in
    let pair = c.args.self.now in
    let one = All-head From (operand_at pair.one_kind pair.one) (operand_at pair.other_kind pair.other ∷ []) from in
    let other = All-head From (operand_at pair.other_kind pair.other) [] (All-tail From (operand_at pair.one_kind pair.one) (operand_at pair.other_kind pair.other ∷ []) from) in
    c.first_slot_of.ensures.last slot (c.first_slot_of-first.ensures.last slot within (subst From (sym c.one.ensures) one)) (subst From (sym c.other.ensures) other)
