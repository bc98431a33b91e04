-- Lists of operands as the code has them.
use Rattle.std.proofs.Common.{◌≡◌, ℕ, zero, suc, ◌-◌, List, [], ◌∷◌, length, get_or, map, reverse, sym, ap, subst, ◌∙◌, Result, Ok, Err, IfOk, arith}
use Rattle.dcv_syntax.specs.declared.formulas.FormulaOperand.{FormulaOperand}
use Rattle.dcv_syntax.specs.declared.propositions.PropOperand.{PropOperand}
use Rattle.dcv_syntax.specs.declared.propositions.Connective.{Connective}
use Rattle.dcv_syntax.specs.Plain.{PlainFormulaKind, PlainFormulaOperands, PlainFormulaOperand, formula_operands_of}
use Rattle.dcv_syntax.specs.Plain.{PropJoined, PlainPropOperand, prop_operands_of}
use Rattle.dcv_syntax.specs.Views.{plain_prop_operand, plain_formula_operand}
use Rattle.dcv_syntax.specs.Spans.{covering}
use Rattle.dcv_translation.proofs.Reversed.{forwards}
use Rattle.dcv_reader.specs.declared.formulas.FormulaList.{FormulaList}
use Rattle.dcv_reader.specs.declared.formulas.FormulaList.TheVariants.{Joined, Chop}
use Rattle.dcv_reader.specs.Actions.{Part, AProp, Props, AFormula, Formulas, joined_props_part}
use Rattle.dcv_reader.specs.Lists.{formula_list_kind, formula_list_part}
use Rattle.dcv_reader.specs.Parts.{IsMeant}
use Rattle.dcv_reader.specs.Nodes.{bare, last_span, formula_list, bare_prop, last_prop_span, prop_list}

-- ---- formulas

last_is : (y : FormulaOperand) (operands : List FormulaOperand) (k : ℕ) (last : FormulaOperand) → suc k ≡ length (y ∷ operands) → last ≡ get_or (y ∷ operands) k last → last.span ≡ last_span y.span (map plain_formula_operand operands)
last_is y [] zero last long is = ap (λ o. o.span) is
last_is y [] (suc k) last long is = absurd (omega arith)
last_is y (z ∷ operands) zero last long is = absurd (omega arith)
last_is y (z ∷ operands) (suc k) last long is = last_is z operands k last (omega arith) is

module _ (kind : PlainFormulaOperands → PlainFormulaKind) where
  pub only_formula : (operands : List FormulaOperand) (count : ℕ) (only : FormulaOperand) → count ≡ length operands → count - 1 ≡ 0 → only ≡ get_or operands 0 only → (p : PlainFormulaOperand) (ps : List PlainFormulaOperand) → map plain_formula_operand operands ≡ p ∷ ps → plain_formula_operand only ≡ formula_list kind p ps
  only_formula [] count only long one is p ps e = absurd cc
  only_formula (y ∷ []) count only long one is p ps e =
      let none : ps ≡ [] = cc in
      let first : plain_formula_operand y ≡ p = cc in
      ap plain_formula_operand is ∙ first ∙ sym (ap (formula_list kind p) none)
  only_formula (y ∷ z ∷ operands) count only long one is p ps e = absurd (omega arith)

  pub listed_formulas : (operands : List FormulaOperand) (count : ℕ) (first last : FormulaOperand) → count ≡ length operands → (count - 1 ≡ 0 → ⊥) → first ≡ get_or operands 0 first → last ≡ get_or operands (count - 1) last → (p : PlainFormulaOperand) (ps : List PlainFormulaOperand) → map plain_formula_operand operands ≡ p ∷ ps → bare (kind (formula_operands_of (map plain_formula_operand operands))) (covering first.span last.span) ≡ formula_list kind p ps
  listed_formulas [] count first last long many is last_is' p ps e = absurd cc
  listed_formulas (y ∷ []) count first last long many is last_is' p ps e = absurd (many (omega arith))
  listed_formulas (y ∷ z ∷ operands) count first last long many is last_is' p ps e =
      let more : ps ≡ map plain_formula_operand (z ∷ operands) = cc in
      let starts : p ≡ plain_formula_operand y = cc in
      let index : count - 1 ≡ suc (length operands) = omega arith in
      let behind : last ≡ get_or (z ∷ operands) (length operands) last = last_is' ∙ ap (λ k. get_or (y ∷ z ∷ operands) k last) index in
      let span : last.span ≡ last_span z.span (map plain_formula_operand operands) = last_is z operands (length operands) last (omega arith) behind in
      let begin : first.span ≡ y.span = ap (λ o. o.span) is in
      let all = formula_operands_of (map plain_formula_operand (y ∷ z ∷ operands)) in
      ap (λ s. bare (kind all) (covering s last.span)) begin
      ∙ ap (λ s. bare (kind all) (covering y.span s)) span
      ∙ sym (ap (λ q. formula_list kind q ps) starts ∙ ap (formula_list kind (plain_formula_operand y)) more)

-- ---- propositions

last_prop_is : (y : PropOperand) (operands : List PropOperand) (k : ℕ) (last : PropOperand) → suc k ≡ length (y ∷ operands) → last ≡ get_or (y ∷ operands) k last → last.span ≡ last_prop_span y.span (map plain_prop_operand operands)
last_prop_is y [] zero last long is = ap (λ o. o.span) is
last_prop_is y [] (suc k) last long is = absurd (omega arith)
last_prop_is y (z ∷ operands) zero last long is = absurd (omega arith)
last_prop_is y (z ∷ operands) (suc k) last long is = last_prop_is z operands k last (omega arith) is

module _ (connective : Connective) where
  pub only_prop : (operands : List PropOperand) (count : ℕ) (only : PropOperand) → count ≡ length operands → count - 1 ≡ 0 → only ≡ get_or operands 0 only → (p : PlainPropOperand) (ps : List PlainPropOperand) → map plain_prop_operand operands ≡ p ∷ ps → plain_prop_operand only ≡ prop_list connective p ps
  only_prop [] count only long one is p ps e = absurd cc
  only_prop (y ∷ []) count only long one is p ps e =
      let none : ps ≡ [] = cc in
      let first : plain_prop_operand y ≡ p = cc in
      ap plain_prop_operand is ∙ first ∙ sym (ap (prop_list connective p) none)
  only_prop (y ∷ z ∷ operands) count only long one is p ps e = absurd (omega arith)

  pub listed_props : (operands : List PropOperand) (count : ℕ) (first last : PropOperand) → count ≡ length operands → (count - 1 ≡ 0 → ⊥) → first ≡ get_or operands 0 first → last ≡ get_or operands (count - 1) last → (p : PlainPropOperand) (ps : List PlainPropOperand) → map plain_prop_operand operands ≡ p ∷ ps → bare_prop (PropJoined connective (prop_operands_of (map plain_prop_operand operands))) (covering first.span last.span) ≡ prop_list connective p ps
  listed_props [] count first last long many is last_is' p ps e = absurd cc
  listed_props (y ∷ []) count first last long many is last_is' p ps e = absurd (many (omega arith))
  listed_props (y ∷ z ∷ operands) count first last long many is last_is' p ps e =
      let more : ps ≡ map plain_prop_operand (z ∷ operands) = cc in
      let starts : p ≡ plain_prop_operand y = cc in
      let index : count - 1 ≡ suc (length operands) = omega arith in
      let behind : last ≡ get_or (z ∷ operands) (length operands) last = last_is' ∙ ap (λ k. get_or (y ∷ z ∷ operands) k last) index in
      let span : last.span ≡ last_prop_span z.span (map plain_prop_operand operands) = last_prop_is z operands (length operands) last (omega arith) behind in
      let begin : first.span ≡ y.span = ap (λ o. o.span) is in
      let all = PropJoined connective (prop_operands_of (map plain_prop_operand (y ∷ z ∷ operands))) in
      ap (λ s. bare_prop all (covering s last.span)) begin
      ∙ ap (λ s. bare_prop all (covering y.span s)) span
      ∙ sym (ap (λ q. prop_list connective q ps) starts ∙ ap (prop_list connective (plain_prop_operand y)) more)

-- ---- results

pub if_ok : {A E : Type 0} {P Q : A → Type 0} (r : Result A E) → ((a : A) → P a → Q a) → IfOk r P → IfOk r Q
if_ok (Ok a) f p = f a p
if_ok (Err e) f p = p

-- ---- parts of a list

props_made : (connective : Connective) (p whole : PlainPropOperand) (ps : List PlainPropOperand) (rest : List Part) → IsMeant (joined_props_part connective (AProp p ∷ Props ps ∷ rest))
    → whole ≡ prop_list connective p ps → AProp whole ≡ joined_props_part connective (AProp p ∷ Props ps ∷ rest)
props_made connective p whole ps [] meant is = ap AProp is
props_made connective p whole ps (x ∷ rest) meant is = absurd meant

pub props_joined : (connective : Connective) (parts between rest : List Part) (p whole : PlainPropOperand) (ps : List PlainPropOperand) → parts ≡ AProp p ∷ between
    → between ≡ Props ps ∷ rest → IsMeant (joined_props_part connective parts) → whole ≡ prop_list connective p ps → AProp whole ≡ joined_props_part connective parts
props_joined connective parts between rest p whole ps first others meant is =
    let all : parts ≡ AProp p ∷ Props ps ∷ rest = first ∙ ap (λ l. AProp p ∷ l) others in
    subst (λ l. AProp whole ≡ joined_props_part connective l) (sym all)
    (props_made connective p whole ps rest (subst (λ l. IsMeant (joined_props_part connective l)) all meant) is)

formulas_made : (list : FormulaList) (d whole : PlainFormulaOperand) (ds : List PlainFormulaOperand) (rest : List Part) → IsMeant (formula_list_part list (AFormula d ∷ Formulas ds ∷ rest))
    → whole ≡ formula_list (formula_list_kind list) d ds → AFormula whole ≡ formula_list_part list (AFormula d ∷ Formulas ds ∷ rest)
formulas_made (Joined connective) d whole ds [] meant is = ap AFormula is
formulas_made Chop d whole ds [] meant is = ap AFormula is
formulas_made (Joined connective) d whole ds (x ∷ rest) meant is = absurd meant
formulas_made Chop d whole ds (x ∷ rest) meant is = absurd meant

pub formulas_joined : (list : FormulaList) (parts between rest : List Part) (d whole : PlainFormulaOperand) (ds : List PlainFormulaOperand) → parts ≡ AFormula d ∷ between
    → between ≡ Formulas ds ∷ rest → IsMeant (formula_list_part list parts) → whole ≡ formula_list (formula_list_kind list) d ds → AFormula whole ≡ formula_list_part list parts
formulas_joined list parts between rest d whole ds first others meant is =
    let all : parts ≡ AFormula d ∷ Formulas ds ∷ rest = first ∙ ap (λ l. AFormula d ∷ l) others in
    subst (λ l. AFormula whole ≡ formula_list_part list l) (sym all)
    (formulas_made list d whole ds rest (subst (λ l. IsMeant (formula_list_part list l)) all meant) is)

-- the operands from the first one on, of those from the last one on
pub from_first : {A B : Type 0} (f : A → B) (first own : A) (others listed operands : List A) → own ≡ first → reverse listed ≡ own ∷ reverse others → operands ≡ reverse listed
    → map f operands ≡ f first ∷ reverse (map f others)
from_first f first own others listed operands same forward is = ap (map f) (is ∙ forward) ∙ (λ i. f (same i) ∷ forwards f others i)
