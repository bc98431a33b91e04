use Rattle.std.proofs.Common.{◌≡◌, length, reverse}
use Rattle.dcv_syntax.specs.Views.{plain_formula_operand}
use Rattle.dcv_reader.specs.Nodes.{starred_by}
use Rattle.dcv_reader.proofs.formula_rules.starred_by.Given as goal

abbrev pub invariant-loop-star : goal.invariant-loop-star
invariant-loop-star l =
    starred_by (plain_formula_operand l.body.value) (reverse l.stars.items) ≡ starred_by (plain_formula_operand l.fn.body.value) (reverse l.fn.stars.items)

abbrev pub decreases-loop-star : goal.decreases-loop-star
decreases-loop-star l = length l.stars.items
