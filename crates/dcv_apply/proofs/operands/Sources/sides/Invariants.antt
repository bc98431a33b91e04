use Rattle.std.proofs.Common.{◌≡◌, ◌<◌, ◌+◌, List, Bool, false, true, length, slice_set, take}
use Rattle.std.specs.List.{All}
use Rattle.dcv_apply.specs.Operands.{IsOperandFrom, numbers_at}
use Rattle.dcv_apply.proofs.operands.Sources.sides.Given as goal

-- the sides are those of the operands so far
abbrev pub invariant-loop-operand : goal.invariant-loop-operand
invariant-loop-operand l = record {
  lo_from : All (IsOperandFrom l.self.first.now l.self.second.now (l.slot + 1)) l.when_false.items;
  hi_from : All (IsOperandFrom l.self.first.now l.self.second.now (l.slot + 1)) l.when_true.items;
  lo_numbers : (letter : List Bool) → l.slot < length letter
      → numbers_at l.self.first.now l.self.second.now l.when_false.items letter
      ≡ numbers_at l.self.first.now l.self.second.now (take l.operand-index l.operands) (slice_set letter l.slot false);
  hi_numbers : (letter : List Bool) → l.slot < length letter
      → numbers_at l.self.first.now l.self.second.now l.when_true.items letter
      ≡ numbers_at l.self.first.now l.self.second.now (take l.operand-index l.operands) (slice_set letter l.slot true);
}
