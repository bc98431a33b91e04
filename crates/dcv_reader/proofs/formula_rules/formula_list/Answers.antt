use Rattle.std.proofs.Common.{map, reverse}
use Rattle.dcv_syntax.specs.Views.{plain_formula_operand}
use Rattle.dcv_reader.specs.Parts.{seen_part}
use Rattle.dcv_reader.proofs.Listed.{formulas_joined, from_first}
use Rattle.dcv_reader.proofs.formula_rules.formula_list.Goals as goal

pub returns : goal.returns
returns c =
    let first = c.formula-first.result.value in
    let others = c.formulas-others.result.items in
    formulas_joined c.args.list (map seen_part c.args.parts.now) _ _ (plain_formula_operand first) (plain_formula_operand c.in_ok-of.field-0.value)
    (reverse (map plain_formula_operand others)) c.formula-first.ensures c.formulas-others.ensures c.requires
    (c.in_ok-of.ensures (plain_formula_operand first) (reverse (map plain_formula_operand others))
    (from_first plain_formula_operand first c.into_inner.result others c.in_ok-operands.operands.items c.reverse.new.self.items c.into_inner.ensures
    c.in_ok-operands.ensures.forwards c.reverse.ensures.items))
