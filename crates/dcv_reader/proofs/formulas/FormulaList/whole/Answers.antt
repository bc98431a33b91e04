use Rattle.std.proofs.Common.{ap, ◌∙◌}
use Rattle.dcv_reader.specs.Nodes.{bare}
use Rattle.dcv_reader.specs.Lists.{formula_list_kind}
use Rattle.dcv_reader.proofs.Listed.{only_formula, listed_formulas}
use Rattle.dcv_reader.proofs.formulas.FormulaList.whole.Goals as goal

pub returns : goal.returns
returns c = λ p ps e.
    let operands = c.args.operands.items in
    c.bare.ensures ∙ ap (λ kind. bare kind c.to-span.result) c.kind.ensures
    ∙ ap (bare _) c.to-span.ensures
    ∙ listed_formulas (formula_list_kind c.args.self) operands c.len-last.result c.index.result.now c.index-2.result.now (c.len-last.ensures ∙ c.args.operands.ok.0) c.if-last-eq0.false c.index.ensures c.index-2.ensures p ps e

pub returns-then-last-eq0 : goal.returns-then-last-eq0
returns-then-last-eq0 c =
    only_formula (formula_list_kind c.args.self) c.args.operands.items c.len-last.result c.remove.result (c.len-last.ensures ∙ c.args.operands.ok.0) c.if-last-eq0.true c.remove.ensures.value
