use Rattle.std.proofs.Common.{map, ap, sym, ◌∙◌}
use Rattle.dcv_syntax.proofs.PlainRows.{plain_joined, plain_chop}
use Rattle.dcv_syntax.specs.Plain.{formula_operands_of}
use Rattle.dcv_syntax.specs.Views.{plain_formula_operand}
use Rattle.dcv_reader.specs.Lists.{formula_list_kind}
use Rattle.dcv_reader.proofs.formulas.FormulaList.kind.Goals as goal

pub returns-in-Joined : goal.returns-in-Joined
returns-in-Joined c =
    plain_joined c.args.operands c.in-Joined.connective ∙ ap (λ list. formula_list_kind list (formula_operands_of (map plain_formula_operand c.args.operands.items))) (sym c.in-Joined.is)

pub returns-in-Chop : goal.returns-in-Chop
returns-in-Chop c =
    plain_chop c.args.operands ∙ ap (λ list. formula_list_kind list (formula_operands_of (map plain_formula_operand c.args.operands.items))) (sym c.in-Chop.is)
