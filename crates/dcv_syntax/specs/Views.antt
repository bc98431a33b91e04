-- The trees of the code as plain trees.
use Rattle.std.specs.Prelude.{map}
use Rattle.dcv_syntax.specs.declared.propositions.Prop.{Prop}
use Rattle.dcv_syntax.specs.declared.propositions.PropOperand.{PropOperand}
use Rattle.dcv_syntax.specs.declared.propositions.PropKind.{PropKind, Constant as TruthProp, Call' as CallProp, Not' as NotProp, Joined' as JoinedProp, Implies' as ImpliesProp, Shifted' as ShiftedProp}
use Rattle.dcv_syntax.specs.declared.propositions.PropKind.TheBlock.{Row_of-Prop, end_of-Prop, more_of-Prop, Row_of-PropOperand, end_of-PropOperand, more_of-PropOperand}
use Rattle.dcv_syntax.specs.declared.formulas.Formula.{Formula}
use Rattle.dcv_syntax.specs.declared.formulas.FormulaOperand.{FormulaOperand}
use Rattle.dcv_syntax.specs.declared.formulas.FormulaKind.{FormulaKind, Constant, Pt, Ext, Bracketed, Slen, Counted, Call, Applied', Joined', Implies', Chop', Quantified'}
use Rattle.dcv_syntax.specs.declared.formulas.FormulaKind.TheBlock.{Row_of-FormulaOperand, end_of-FormulaOperand, more_of-FormulaOperand}
use Rattle.dcv_syntax.specs.declared.files.File.{File}
use Rattle.dcv_syntax.specs.declared.files.Macro.{Macro}
use Rattle.dcv_syntax.specs.declared.files.MacroBody.{MacroBody}
use Rattle.dcv_syntax.specs.declared.files.MacroBody.TheVariants.{Formula as IsFormula, Prop as IsProp}
use Rattle.dcv_syntax.specs.Plain.{PlainPropKind, PropConstant, PropCall, PropNot, PropJoined, PropImplies, PropShifted, PlainArguments, no_arguments, argument}
use Rattle.dcv_syntax.specs.Plain.{PlainPropOperands, no_prop_operands, prop_operand, PlainProp, PlainPropOperand, PlainFormulaKind, FormulaConstant, FormulaPt, FormulaExt}
use Rattle.dcv_syntax.specs.Plain.{FormulaBracketed, FormulaSlen, FormulaCounted, FormulaCall, FormulaApplied, FormulaJoined, FormulaImplies, FormulaChop, FormulaQuantified}
use Rattle.dcv_syntax.specs.Plain.{PlainFormulaOperands, no_formula_operands, formula_operand, PlainFormula, PlainFormulaOperand, PlainMacroBody, FormulaBody, PropBody, PlainMacro, PlainFile}

abbrev mutual
  pub plain_prop_kind : PropKind → PlainPropKind
  plain_prop_kind (TruthProp truth) = PropConstant truth
  plain_prop_kind (CallProp name shape arguments) = PropCall name (plain_arguments arguments)
  plain_prop_kind (NotProp pointer kind span) = PropNot (plain_prop_kind kind) span
  plain_prop_kind (JoinedProp connective shape operands) = PropJoined connective (plain_prop_operands operands)
  plain_prop_kind (ImpliesProp left_pointer left left_span right_pointer right right_span) =
      PropImplies (plain_prop_kind left) left_span (plain_prop_kind right) right_span
  plain_prop_kind (ShiftedProp direction form pointer kind span) = PropShifted direction form (plain_prop_kind kind) span

  pub plain_arguments : {m : _} → Row_of-Prop m → PlainArguments
  plain_arguments end_of-Prop = no_arguments
  plain_arguments (more_of-Prop kind span arguments) = argument (plain_prop_kind kind) span (plain_arguments arguments)

  pub plain_prop_operands : {m : _} → Row_of-PropOperand m → PlainPropOperands
  plain_prop_operands end_of-PropOperand = no_prop_operands
  plain_prop_operands (more_of-PropOperand kind span outer operands) =
      prop_operand (plain_prop_kind kind) span outer (plain_prop_operands operands)

abbrev pub plain_prop : Prop → PlainProp
plain_prop prop = record { kind = plain_prop_kind prop.kind; span = prop.span }

abbrev pub plain_prop_operand : PropOperand → PlainPropOperand
plain_prop_operand operand = record { prop = plain_prop operand.prop; span = operand.span }

abbrev mutual
  pub plain_formula_kind : FormulaKind → PlainFormulaKind
  plain_formula_kind (Constant truth) = FormulaConstant truth
  plain_formula_kind Pt = FormulaPt
  plain_formula_kind Ext = FormulaExt
  plain_formula_kind (Bracketed bracket prop) = FormulaBracketed bracket (plain_prop prop)
  plain_formula_kind (Slen relation number) = FormulaSlen relation number
  plain_formula_kind (Counted count prop relation number) = FormulaCounted count (plain_prop prop) relation number
  plain_formula_kind (Call name arguments) = FormulaCall name (map plain_prop arguments.items)
  plain_formula_kind (Applied' unary pointer kind span) = FormulaApplied unary (plain_formula_kind kind) span
  plain_formula_kind (Joined' connective shape operands) = FormulaJoined connective (plain_formula_operands operands)
  plain_formula_kind (Implies' left_pointer left left_span right_pointer right right_span) =
      FormulaImplies (plain_formula_kind left) left_span (plain_formula_kind right) right_span
  plain_formula_kind (Chop' shape operands) = FormulaChop (plain_formula_operands operands)
  plain_formula_kind (Quantified' quantifier name pointer kind span) = FormulaQuantified quantifier name (plain_formula_kind kind) span

  pub plain_formula_operands : {m : _} → Row_of-FormulaOperand m → PlainFormulaOperands
  plain_formula_operands end_of-FormulaOperand = no_formula_operands
  plain_formula_operands (more_of-FormulaOperand kind span outer operands) =
      formula_operand (plain_formula_kind kind) span outer (plain_formula_operands operands)

abbrev pub plain_formula : Formula → PlainFormula
plain_formula formula = record { kind = plain_formula_kind formula.kind; span = formula.span }

abbrev pub plain_formula_operand : FormulaOperand → PlainFormulaOperand
plain_formula_operand operand = record { formula = plain_formula operand.formula; span = operand.span }

abbrev pub plain_body : MacroBody → PlainMacroBody
plain_body (IsFormula formula) = FormulaBody (plain_formula formula)
plain_body (IsProp prop) = PropBody (plain_prop prop)

abbrev pub plain_macro : Macro → PlainMacro
plain_macro m = record { name = m.name; parameters = m.parameters.items; body = plain_body m.body; span = m.span }

abbrev pub plain_file : File → PlainFile
plain_file file =
    record {
      variables = file.variables.items;
      macros = map plain_macro file.macros.items;
      goal = plain_formula_operand file.goal;
    }
