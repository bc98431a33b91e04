use Rattle.std.proofs.Common.{◌≤◌, ℕ, take}
use Rattle.std.specs.List.{All}
use Rattle.dcv_apply.specs.Operands.{IsOperandFrom}
use Rattle.dcv_apply.proofs.operands.Sources.first_slot.Given as goal

-- no operand so far depends on an earlier slot, and no later slot is one before which none of the operands depends on any
abbrev pub invariant-loop-operand : goal.invariant-loop-operand
invariant-loop-operand l = record {
  bound : l.first ≤ l.slots;
  from : All (IsOperandFrom l.self.first.now l.self.second.now l.first) (take l.operand-index l.operands);
  last : (slot : ℕ) → slot ≤ l.slots → All (IsOperandFrom l.self.first.now l.self.second.now slot) l.operands → slot ≤ l.first;
}
