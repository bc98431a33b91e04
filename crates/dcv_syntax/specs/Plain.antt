-- Plain trees: the trees of the code without its pointers and its vectors.
--     PlainFile, PlainMacro                  a file, and a macro of it
--     PlainProp, PlainFormula                a proposition or formula and its place, without its own parentheses
--     PlainPropOperand, PlainFormulaOperand  the same, and the place with the parentheses that stand round it
--     PlainPropKind, PlainFormulaKind        the forms
--
-- A type that holds itself stands here by its kind and its span, and a list of such by a type of its own.
use Rattle.std.specs.Prelude.{Bool, List, [], ◌∷◌}
use Rattle.dcv_syntax.specs.declared.names.Name.{Name}
use Rattle.dcv_syntax.specs.declared.names.Span.{Span}
use Rattle.dcv_syntax.specs.declared.formulas.Number.{Number}
use Rattle.dcv_syntax.specs.declared.formulas.Relation.{Relation}
use Rattle.dcv_syntax.specs.declared.formulas.Bracket.{Bracket}
use Rattle.dcv_syntax.specs.declared.formulas.Count.{Count}
use Rattle.dcv_syntax.specs.declared.formulas.Unary.{Unary}
use Rattle.dcv_syntax.specs.declared.formulas.Quantifier.{Quantifier}
use Rattle.dcv_syntax.specs.declared.propositions.Connective.{Connective}
use Rattle.dcv_syntax.specs.declared.propositions.Direction.{Direction}

mutual
  -- the forms of a proposition
  pub data PlainPropKind : Type 0 where
    PropConstant : (truth : Bool) → PlainPropKind
    PropCall : (name : Name) → (arguments : PlainArguments) → PlainPropKind
    PropNot : (kind : PlainPropKind) → (span : Span) → PlainPropKind
    PropJoined : (connective : Connective) → (operands : PlainPropOperands) → PlainPropKind
    PropImplies : (left : PlainPropKind) → (left_span : Span) → (right : PlainPropKind) → (right_span : Span) → PlainPropKind
    -- the operand at another instant, with the span of the form and that of the operand
    PropShifted : (direction : Direction) → (form : Span) → (kind : PlainPropKind) → (span : Span) → PlainPropKind

  -- propositions that are arguments
  pub data PlainArguments : Type 0 where
    no_arguments : PlainArguments
    argument : (kind : PlainPropKind) → (span : Span) → (arguments : PlainArguments) → PlainArguments

  -- propositions that are operands, each with the span that has its own parentheses too
  pub data PlainPropOperands : Type 0 where
    no_prop_operands : PlainPropOperands
    prop_operand : (kind : PlainPropKind) → (span : Span) → (outer : Span) → (operands : PlainPropOperands) → PlainPropOperands

-- a proposition and its place, without its own parentheses
pub record PlainProp : Type 0 where
  pub kind : PlainPropKind
  pub span : Span

-- a proposition, and its place with the parentheses that stand round it
pub record PlainPropOperand : Type 0 where
  pub prop : PlainProp
  pub span : Span

abbrev pub arguments_of : List PlainProp → PlainArguments
arguments_of [] = no_arguments
arguments_of (prop ∷ props) = argument prop.kind prop.span (arguments_of props)

abbrev pub prop_operands_of : List PlainPropOperand → PlainPropOperands
prop_operands_of [] = no_prop_operands
prop_operands_of (operand ∷ operands) = prop_operand operand.prop.kind operand.prop.span operand.span (prop_operands_of operands)

mutual
  -- the forms of a formula
  pub data PlainFormulaKind : Type 0 where
    FormulaConstant : (truth : Bool) → PlainFormulaKind
    FormulaPt : PlainFormulaKind
    FormulaExt : PlainFormulaKind
    FormulaBracketed : (bracket : Bracket) → (prop : PlainProp) → PlainFormulaKind
    FormulaSlen : (relation : Relation) → (number : Number) → PlainFormulaKind
    FormulaCounted : (count : Count) → (prop : PlainProp) → (relation : Relation) → (number : Number) → PlainFormulaKind
    FormulaCall : (name : Name) → (arguments : List PlainProp) → PlainFormulaKind
    FormulaApplied : (unary : Unary) → (kind : PlainFormulaKind) → (span : Span) → PlainFormulaKind
    FormulaJoined : (connective : Connective) → (operands : PlainFormulaOperands) → PlainFormulaKind
    FormulaImplies : (left : PlainFormulaKind) → (left_span : Span) → (right : PlainFormulaKind) → (right_span : Span) → PlainFormulaKind
    FormulaChop : (operands : PlainFormulaOperands) → PlainFormulaKind
    FormulaQuantified : (quantifier : Quantifier) → (name : Name) → (kind : PlainFormulaKind) → (span : Span) → PlainFormulaKind

  -- formulas that are operands, each with the span that has its own parentheses too
  pub data PlainFormulaOperands : Type 0 where
    no_formula_operands : PlainFormulaOperands
    formula_operand : (kind : PlainFormulaKind) → (span : Span) → (outer : Span) → (operands : PlainFormulaOperands) → PlainFormulaOperands

-- a formula and its place, without its own parentheses
pub record PlainFormula : Type 0 where
  pub kind : PlainFormulaKind
  pub span : Span

-- a formula, and its place with the parentheses that stand round it
pub record PlainFormulaOperand : Type 0 where
  pub formula : PlainFormula
  pub span : Span

abbrev pub formula_operands_of : List PlainFormulaOperand → PlainFormulaOperands
formula_operands_of [] = no_formula_operands
formula_operands_of (operand ∷ operands) =
    formula_operand operand.formula.kind operand.formula.span operand.span (formula_operands_of operands)

-- what a macro stands for
pub data PlainMacroBody : Type 0 where
  FormulaBody : (formula : PlainFormula) → PlainMacroBody
  PropBody : (prop : PlainProp) → PlainMacroBody

pub record PlainMacro : Type 0 where
  pub name : Name
  pub parameters : List Name
  pub body : PlainMacroBody
  pub span : Span

pub record PlainFile : Type 0 where
  pub variables : List Name
  pub macros : List PlainMacro
  pub goal : PlainFormulaOperand
