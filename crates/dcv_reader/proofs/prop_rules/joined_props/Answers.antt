use Rattle.std.proofs.Common.{map, reverse}
use Rattle.dcv_syntax.specs.Views.{plain_prop_operand}
use Rattle.dcv_reader.specs.Parts.{seen_part}
use Rattle.dcv_reader.proofs.Listed.{props_joined, from_first}
use Rattle.dcv_reader.proofs.prop_rules.joined_props.Goals as goal

pub returns : goal.returns
returns c =
    let first = c.prop-first.result.value in
    let others = c.props-others.result.items in
    props_joined c.args.connective (map seen_part c.args.parts.now) _ _ (plain_prop_operand first) (plain_prop_operand c.in_ok-listed_prop.field-0.value)
    (reverse (map plain_prop_operand others)) c.prop-first.ensures c.props-others.ensures c.requires
    (c.in_ok-listed_prop.ensures (plain_prop_operand first) (reverse (map plain_prop_operand others))
    (from_first plain_prop_operand first c.into_inner.result others c.in_ok-operands.operands.items c.reverse.new.self.items c.into_inner.ensures
    c.in_ok-operands.ensures.forwards c.reverse.ensures.items))
