use Rattle.std.proofs.Common.{ap, ◌∙◌}
use Rattle.dcv_syntax.proofs.PlainRows.{plain_prop_joined}
use Rattle.dcv_reader.specs.Nodes.{bare_prop}
use Rattle.dcv_reader.proofs.Listed.{only_prop, listed_props}
use Rattle.dcv_reader.proofs.props.whole_prop.Goals as goal

pub returns : goal.returns
returns c = λ p ps e.
    let operands = c.args.operands.items in
    c.bare_prop.ensures ∙ ap (λ kind. bare_prop kind c.to-span.result) (plain_prop_joined c.args.connective c.args.operands)
    ∙ ap (bare_prop _) c.to-span.ensures
    ∙ listed_props c.args.connective operands c.len-last.result c.index.result.now c.index-2.result.now (c.len-last.ensures ∙ c.args.operands.ok.0) c.if-last-eq0.false c.index.ensures c.index-2.ensures p ps e

pub returns-then-last-eq0 : goal.returns-then-last-eq0
returns-then-last-eq0 c =
    only_prop c.args.connective c.args.operands.items c.len-last.result c.remove.result (c.len-last.ensures ∙ c.args.operands.ok.0) c.if-last-eq0.true c.remove.ensures.value
