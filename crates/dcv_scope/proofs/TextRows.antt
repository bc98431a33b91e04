-- The definitions go along the operands of a plain tree, and the code along the list of them: they agree.
use Rattle.std.proofs.Common.{◌≡◌, List, [], ◌∷◌, Option, Some, None, Vec, Global, map, refl, ap, ◌∙◌}
use Rattle.dcv_syntax.specs.declared.names.Name.{Name}
use Rattle.dcv_syntax.specs.declared.names.Span.{Span}
use Rattle.dcv_syntax.specs.declared.propositions.Prop.{Prop}
use Rattle.dcv_syntax.specs.declared.propositions.PropOperand.{PropOperand}
use Rattle.dcv_syntax.specs.declared.propositions.Connective.{Connective}
use Rattle.dcv_syntax.specs.declared.propositions.PropKind.{Call, Joined}
use Rattle.dcv_syntax.specs.declared.formulas.FormulaOperand.{FormulaOperand}
use Rattle.dcv_syntax.specs.declared.formulas.FormulaKind.{Call as CallFormula, Joined as JoinedFormula, Chop}
use Rattle.dcv_syntax.specs.Plain.{arguments_of, prop_operands_of}
use Rattle.dcv_syntax.specs.Views.{plain_prop_kind, plain_prop, plain_prop_operand, plain_formula_kind}
use Rattle.dcv_syntax.proofs.PlainRows.{plain_call, plain_prop_joined, plain_joined, plain_chop}
use Rattle.dcv_logic.specs.Environment.{found}
use Rattle.dcv_core.specs.Core.{TruthJoined, truth_operand, PlainTruth, CoreTree}
use Rattle.dcv_scope.specs.CoreOf.{Sight, truth_of, argument_truths, operand_truths, truth_of_call, core_of_macro, core_of, list_core}
use Rattle.dcv_scope.specs.Expansions.{truths_in, join_of, unit_of, operands_of}
use Rattle.dcv_core.specs.TruthViews.{truths_of}

module _ (sight : Sight) where
  abbrev pub operand_truth : PropOperand → PlainTruth
  operand_truth o = truth_of sight (plain_prop_kind o.prop.kind)

  pub arguments-list : (props : List Prop) → argument_truths sight (arguments_of (map plain_prop props)) ≡ truths_in sight props
  arguments-list [] = refl
  arguments-list (p ∷ props) = ap (λ truths. truth_of sight (plain_prop_kind p.kind) ∷ truths) (arguments-list props)

  operands-list : (operands : List PropOperand) → operand_truths sight (prop_operands_of (map plain_prop_operand operands)) ≡ truths_of (map operand_truth operands)
  operands-list [] = refl
  operands-list (o ∷ operands) = ap (truth_operand (operand_truth o)) (operands-list operands)

  pub truth-Call : (name : Name) (arguments : Vec Prop Global) → truth_of sight (plain_prop_kind (Call name arguments))
      ≡ truth_of_call (found sight.truths name.text) (found sight.macros name.text) (truths_in sight arguments.items)
  truth-Call name arguments =
      ap (truth_of sight) (plain_call name arguments)
      ∙ ap (truth_of_call (found sight.truths name.text) (found sight.macros name.text)) (arguments-list arguments.items)

  pub truth-Joined : (connective : Connective) (operands : Vec PropOperand Global)
      → truth_of sight (plain_prop_kind (Joined connective operands)) ≡ TruthJoined connective (truths_of (map operand_truth operands.items))
  truth-Joined connective operands = ap (truth_of sight) (plain_prop_joined connective operands) ∙ ap (TruthJoined connective) (operands-list operands.items)

  -- the same of formulas
  module _ (span : Span) where
    pub core-Call : (name : Name) (arguments : Vec Prop Global) → core_of sight (plain_formula_kind (CallFormula name arguments)) span
        ≡ core_of_macro (found sight.macros name.text) sight.slots (truths_in sight arguments.items) span
    core-Call name arguments = ap (λ truths. core_of_macro (found sight.macros name.text) sight.slots truths span) (arguments-list arguments.items)

    abbrev pub listed : Option Connective → List FormulaOperand → CoreTree
    listed connective operands = list_core sight (join_of connective) (unit_of connective) (operands_of operands) span

    pub core-Joined : (connective : Connective) (operands : Vec FormulaOperand Global)
        → core_of sight (plain_formula_kind (JoinedFormula connective operands)) span ≡ listed (Some connective) operands.items
    core-Joined connective operands = ap (λ kind. core_of sight kind span) (plain_joined operands connective)

    pub core-Chop : (operands : Vec FormulaOperand Global) → core_of sight (plain_formula_kind (Chop operands)) span ≡ listed None operands.items
    core-Chop operands = ap (λ kind. core_of sight kind span) (plain_chop operands)

pub ruleset prop_rows = (truth-Call, truth-Joined)

pub ruleset formula_rows = (core-Call, core-Joined, core-Chop)
