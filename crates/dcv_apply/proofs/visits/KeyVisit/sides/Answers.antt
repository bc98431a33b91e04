use Rattle.std.proofs.Common.{false, true, ◌+◌, sym, subst, ◌∙◌}
use Rattle.std.specs.List.{All}
use Rattle.dcv_arena.specs.Pointwise.{FixesSlot}
use Rattle.dcv_apply.specs.Sources.{IsFrom, merged_by}
use Rattle.dcv_apply.proofs.MergedSides.{merged_side}
use Rattle.dcv_apply.proofs.visits.KeyVisit.sides.Goals as goal

pub returns-clause-when_false : goal.returns-clause-when_false
returns-clause-when_false c =
    let made = c.new.ensures in
    let operation = c.args.operation.now in
    let operands = c.args.self.now.operands.items in
    let slot = c.args.slot in
    let side = c.in_ok-when_false.when_false.items in
    record {
      round = made.round ∙ c.requires.round;
      from = subst (All (IsFrom operation.sources (slot + 1))) (sym made.operands) c.in_ok-when_false.ensures.lo_from;
      fixed = subst (λ items. FixesSlot (merged_by operation operands) (merged_by operation items) slot false) (sym made.operands)
          (merged_side operation operands c.deref.result.now side slot false c.deref.ensures c.in_ok-when_false.ensures.lo_numbers);
    }

pub returns-clause-when_true : goal.returns-clause-when_true
returns-clause-when_true c =
    let made = c.new-2.ensures in
    let operation = c.args.operation.now in
    let operands = c.args.self.now.operands.items in
    let slot = c.args.slot in
    let side = c.in_ok-when_false.when_true.items in
    record {
      round = made.round ∙ c.requires.round;
      from = subst (All (IsFrom operation.sources (slot + 1))) (sym made.operands) c.in_ok-when_false.ensures.hi_from;
      fixed = subst (λ items. FixesSlot (merged_by operation operands) (merged_by operation items) slot true) (sym made.operands)
          (merged_side operation operands c.deref.result.now side slot true c.deref.ensures c.in_ok-when_false.ensures.hi_numbers);
    }
