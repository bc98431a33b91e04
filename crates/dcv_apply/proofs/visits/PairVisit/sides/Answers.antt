use Rattle.std.proofs.Common.{ℕ, List, [], ◌∷◌, false, true, sym, subst, ◌∙◌}
use Rattle.std.proofs.lemmas.List.Elements.{All-head, All-tail}
use Rattle.dcv_arena.specs.declared.nodes.Ref.{Ref}
use Rattle.dcv_apply.specs.Pairs.{operand_at}
use Rattle.dcv_apply.specs.Sources.{IsFrom, IsSide}
use Rattle.dcv_apply.proofs.PlainOperands.{plain_side}
use Rattle.dcv_apply.proofs.visits.PairVisit.sides.Goals as goal

pub parts-requires : goal.parts-requires
parts-requires c =
    let From = IsFrom c.args.operation.now.sources c.args.slot in
    let pair = c.args.self.now in
    subst From (sym c.one.ensures) (All-head From (operand_at pair.one_kind pair.one) (operand_at pair.other_kind pair.other ∷ []) c.requires.operands)

pub parts-requires-2 : goal.parts-requires-2
parts-requires-2 c =
    let From = IsFrom c.args.operation.now.sources c.args.slot in
    let pair = c.args.self.now in
    subst From (sym c.other.ensures) (All-head From (operand_at pair.other_kind pair.other) [] (All-tail From (operand_at pair.one_kind pair.one) (operand_at pair.other_kind pair.other ∷ []) c.requires.operands))

pub returns-clause-when_false : goal.returns-clause-when_false
returns-clause-when_false c =
    let operation = c.args.operation.now in
    let one = c.parts.ensures in
    let other = c.parts-2.ensures in
    subst (λ (lists : List (ℕ × Ref) × List (ℕ × Ref)). IsSide operation lists.0 c.args.slot false c.new-when_false.result.round lists.1)
    (λ i. (c.one.ensures i ∷ c.other.ensures i ∷ [], sym c.new-when_false.ensures.operands i))
    (plain_side operation c.one.result c.other.result c.parts.result.0 c.parts-2.result.0 c.args.slot false c.new-when_false.result.round (c.new-when_false.ensures.round ∙ c.round.ensures ∙ c.requires.round)
    one.lo_from other.lo_from one.lo_number other.lo_number)

pub returns-clause-when_true : goal.returns-clause-when_true
returns-clause-when_true c =
    let operation = c.args.operation.now in
    let one = c.parts.ensures in
    let other = c.parts-2.ensures in
    subst (λ (lists : List (ℕ × Ref) × List (ℕ × Ref)). IsSide operation lists.0 c.args.slot true c.new-when_true.result.round lists.1)
    (λ i. (c.one.ensures i ∷ c.other.ensures i ∷ [], sym c.new-when_true.ensures.operands i))
    (plain_side operation c.one.result c.other.result c.parts.result.1 c.parts-2.result.1 c.args.slot true c.new-when_true.result.round (c.new-when_true.ensures.round ∙ c.round-2.ensures ∙ c.requires.round)
    one.hi_from other.hi_from one.hi_number other.hi_number)
