use Rattle.std.proofs.Common.{map, drop}
use Rattle.dcv_core.specs.TruthViews.{plain_truth}
use Rattle.dcv_atoms.specs.Built.{OnTheWay}
use Rattle.dcv_atoms.proofs.proposition.+diagrams.Given as goal

-- the operands so far are joined, and the others are left
abbrev pub invariant-list-loop-operand : goal.invariant-list-loop-operand
invariant-list-loop-operand l =
    OnTheWay l.fn.arena l.arena l.connective (map plain_truth l.operands) (map plain_truth (drop l.operand-index l.operands)) l.all.arena l.all.root
