use Rattle.std.proofs.Common.{◌≡◌, ◌≤◌, ◌++◌, List, Bool, length, take}
use Rattle.dcv_apply.specs.Operands.{numbers_at}
use Rattle.dcv_apply.proofs.operands.Sources.push_numbers.Given as goal

-- the numbers of the operands so far were added
abbrev pub invariant-loop-operand : goal.invariant-loop-operand
invariant-loop-operand l = (letter : List Bool) → length letter ≤ l.slots
    → l.numbers.items ≡ l.initial.numbers.items ++ numbers_at l.self.first.now l.self.second.now (take l.operand-index l.operands) letter
