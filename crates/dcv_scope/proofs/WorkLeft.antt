-- How much is left to do, by which the walks over propositions and formulas end: each macro in sight counts with its body,
-- so a call of one leaves less.
use Rattle.std.proofs.Common.{◌≡◌, ℕ, zero, suc, ◌+◌, ◌<◌, ◌≤◌, List, [], ◌∷◌, ◌++◌, length, get_or, Vec, Global, refl, ap, ◌∙◌, arith}
use Rattle.dcv_syntax.specs.declared.propositions.Prop.{size-Prop}
use Rattle.dcv_syntax.specs.declared.formulas.FormulaOperand.{FormulaOperand}
use Rattle.dcv_syntax.specs.declared.formulas.FormulaKind.{FormulaKind, Applied', Joined, Joined', Implies', Chop, Chop', Quantified'}
use Rattle.dcv_syntax.specs.declared.propositions.Connective.{Connective}
use Rattle.dcv_syntax.specs.declared.formulas.FormulaKind.TheBlock.{Row_of-FormulaOperand, end_of-FormulaOperand, more_of-FormulaOperand, items-the_row-FormulaOperand, items_hidden-the_row-FormulaOperand-0, hidden-the_row-FormulaOperand-0}
use Rattle.dcv_syntax.specs.declared.files.Macro.{Macro}
use Rattle.dcv_syntax.specs.declared.files.MacroBody.{MacroBody}
use Rattle.dcv_syntax.specs.declared.files.MacroBody.TheVariants.{Formula as FormulaBody, Prop as PropBody}
use Rattle.dcv_logic.specs.Newest.{IsNewest}
use Rattle.dcv_scope.specs.declared.expansion.Sight.{Sight}

abbrev pub prop_depth : MacroBody → ℕ
prop_depth (FormulaBody f) = 0
prop_depth (PropBody p) = size-Prop p

-- how many forms a formula has, and each operand of a list once more
abbrev mutual
  pub work : FormulaKind → ℕ
  work (Applied' unary pointer d span) = work d + 1
  work (Joined' connective shape operands) = row_work operands + 1
  work (Implies' c_pointer c c_span d_pointer d d_span) = work c + work d + 1
  work (Chop' shape operands) = row_work operands + 1
  work (Quantified' quantifier name pointer d span) = work d + 1
  work _ = 1

  row_work : {m : _} → Row_of-FormulaOperand m → ℕ
  row_work end_of-FormulaOperand = 0
  row_work (more_of-FormulaOperand d span outer operands) = work d + 1 + row_work operands

-- the same along the list of operands
abbrev pub list_work : List FormulaOperand → ℕ
list_work [] = 0
list_work (operand ∷ operands) = work operand.formula.kind + 1 + list_work operands

row_is_list : {m : _} (row : Row_of-FormulaOperand m) → row_work row ≡ list_work (items-the_row-FormulaOperand m row)
row_is_list end_of-FormulaOperand = refl
row_is_list (more_of-FormulaOperand d span outer row) = ap (λ rest. work d + 1 + rest) (row_is_list row)

hidden_work : (operands : Vec FormulaOperand Global) → row_work (hidden-the_row-FormulaOperand-0 operands) ≡ list_work operands.items
hidden_work operands = row_is_list (hidden-the_row-FormulaOperand-0 operands) ∙ ap list_work (items_hidden-the_row-FormulaOperand-0 operands)

pub work-Joined : (connective : Connective) (operands : Vec FormulaOperand Global) → work (Joined connective operands) ≡ list_work operands.items + 1
work-Joined connective operands = ap (λ w. w + 1) (hidden_work operands)

pub work-Chop : (operands : Vec FormulaOperand Global) → work (Chop operands) ≡ list_work operands.items + 1
work-Chop operands = ap (λ w. w + 1) (hidden_work operands)

-- an operand's work is less than that of the list
pub work_at : (operands : List FormulaOperand) (i : ℕ) (d : FormulaOperand) → i < length operands → work (get_or operands i d).formula.kind + 1 ≤ list_work operands
work_at [] i d lt = absurd (omega arith)
work_at (operand ∷ operands) zero d lt = omega arith
work_at (operand ∷ operands) (suc i) d lt = omega (arith, work_at operands i d (omega arith))

abbrev pub body_work : MacroBody → ℕ
body_work (FormulaBody f) = work f.kind
body_work (PropBody p) = 0

-- a measure of the bodies of macros
module _ (measure : MacroBody → ℕ) where
  abbrev pub all_bodies : List Macro → ℕ
  all_bodies [] = 0
  all_bodies (m ∷ ms) = measure m.body + 1 + all_bodies ms

  all_bodies-append : (ms ns : List Macro) → all_bodies (ms ++ ns) ≡ all_bodies ms + all_bodies ns
  all_bodies-append [] ns = omega arith
  all_bodies-append (m ∷ ms) ns = omega (arith, all_bodies-append ms ns)

  -- what is left after a call of a macro
  pub left_after_call : (macros : List Macro) (name : List ℕ) (called : Macro) (earlier : List Macro) → IsNewest macros name called earlier →
      all_bodies earlier + measure called.body + 1 ≤ all_bodies macros
  left_after_call macros name called earlier newest =
      let later = newest.later in
      omega (arith, ap all_bodies later.1, all_bodies-append earlier (called ∷ later.0))

-- the work that the bodies of the macros in sight are
abbrev pub work_left : Sight → ℕ
work_left s = all_bodies body_work s.macros.now
