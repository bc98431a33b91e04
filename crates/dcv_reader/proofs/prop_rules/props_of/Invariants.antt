use Rattle.std.proofs.Common.{◌≡◌, ◌++◌, length, map, reverse}
use Rattle.dcv_syntax.specs.Views.{plain_prop, plain_prop_operand}
use Rattle.dcv_reader.proofs.prop_rules.props_of.Given as goal

abbrev pub invariant-loop-operand : goal.invariant-loop-operand
invariant-loop-operand l =
    map plain_prop l.props.items ++ map (λ operand. operand.prop) (reverse (map plain_prop_operand l.operands.items))
    ≡ map (λ operand. operand.prop) (reverse (map plain_prop_operand l.fn.operands.items))

abbrev pub decreases-loop-operand : goal.decreases-loop-operand
decreases-loop-operand l = length l.operands.items
