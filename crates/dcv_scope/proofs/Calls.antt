-- A call goes on in the body of its macro, whose parameters stand for the arguments that it uses.
use Rattle.std.proofs.Common.{◌≡◌, ℕ, false, List, Option, Some, None, map, sym, ap, subst, ◌∙◌}
use Rattle.dcv_syntax.specs.declared.names.Span.{Span}
use Rattle.dcv_syntax.specs.Plain.{PlainMacroBody, FormulaBody, PropBody, PlainProp, PlainFormula}
use Rattle.dcv_scope.specs.declared.measures.MacroMeasure.{MacroMeasure}
use Rattle.dcv_core.specs.Core.{PlainTruth, CoreTree}
use Rattle.dcv_scope.specs.CoreOf.{Sight, Expansion, bind_arguments, truth_of, truth_of_call, core_of, core_of_macro, body_expansion}
use Rattle.dcv_scope.specs.Linear.{uses_parameter}
use Rattle.dcv_scope.specs.Expansions.{ExpansionPassesOver, used_from, sight_of, top_sight_of, truths_in, IsCalled}
use Rattle.dcv_scope.specs.declared.expansion.Sight.{Sight as SightOfCode}
use Rattle.dcv_scope.specs.declared.expansion.Called.{Called}
use Rattle.dcv_core.specs.declared.truths.Truth.{Truth}
use Rattle.dcv_scope.specs.Names.{texts}
use Rattle.dcv_core.specs.TruthViews.{plain_truth}
use Rattle.dcv_syntax.specs.declared.propositions.Prop.{Prop}
use Rattle.dcv_syntax.specs.declared.formulas.Formula.{Formula}
use Rattle.dcv_syntax.specs.declared.files.MacroBody.TheVariants.{Formula as IsFormula}
use Rattle.dcv_syntax.specs.Views.{plain_formula, plain_formula_kind, plain_body}
use Rattle.dcv_logic.specs.Environment.{found}
use Rattle.dcv_scope.proofs.InSight.{used-enough, truth-slots}

module _ (top : Sight) (parameters : List (List ℕ)) (measure : MacroMeasure) (body : PlainMacroBody)
    (skips : (j : ℕ) → uses_parameter measure j ≡ false → ExpansionPassesOver j (body_expansion top parameters body))
    (arguments : List PlainTruth) (k : ℕ) (inner : Sight) (inner_is : inner ≡ record (bind_arguments top parameters (used_from measure 0 arguments)) { slots = k })
    (macro : Option Expansion) (macro_is : macro ≡ Some (body_expansion top parameters body)) where
  pub prop_called : (p : PlainProp) → body ≡ PropBody p → (truth : Option PlainTruth) → truth ≡ None → truth_of inner p.kind ≡ truth_of_call truth macro arguments
  prop_called p e truth truth_is =
      let c : List PlainTruth → PlainTruth = λ truths. truth_of (bind_arguments top parameters truths) p.kind in
      let passes = subst (λ (b : PlainMacroBody). (j : ℕ) → uses_parameter measure j ≡ false → ExpansionPassesOver j (body_expansion top parameters b)) e skips in
      let is : macro ≡ Some (body_expansion top parameters (PropBody p)) = macro_is ∙ ap (λ b. Some (body_expansion top parameters b)) e in
      ap (λ (s : Sight). truth_of s p.kind) inner_is
      ∙ truth-slots (bind_arguments top parameters (used_from measure 0 arguments)) k p.kind
      ∙ used-enough measure c passes arguments
      ∙ sym (λ i. truth_of_call (truth_is i) (is i) arguments)

  pub formula_called : (d : PlainFormula) → body ≡ FormulaBody d → (span : Span) → core_of inner d.kind d.span ≡ core_of_macro macro k arguments span
  formula_called d e span =
      let c : List PlainTruth → CoreTree = λ truths. core_of (record (bind_arguments top parameters truths) { slots = k }) d.kind d.span in
      let passes = subst (λ (b : PlainMacroBody). (j : ℕ) → uses_parameter measure j ≡ false → ExpansionPassesOver j (body_expansion top parameters b)) e skips in
      let is : macro ≡ Some (body_expansion top parameters (FormulaBody d)) = macro_is ∙ ap (λ b. Some (body_expansion top parameters b)) e in
      ap (λ (s : Sight). core_of s d.kind d.span) inner_is
      ∙ used-enough measure c (λ j unused. passes j unused k) arguments
      ∙ sym (ap (λ m. core_of_macro m k arguments span) is)

-- the sight in the body of a macro that is called, and the core of the body
pub record IsInside (outer : SightOfCode) (inner : SightOfCode) (body whole : CoreTree) : Type 0 where
  pub slots : inner.slots ≡ outer.slots
  pub core : body ≡ whole

pub core_inside : (self inside : SightOfCode) (called : Called) (name : List ℕ) (arguments : List Prop) (span : Span) → IsCalled self name called
    → (truths : List Truth) → map plain_truth truths ≡ used_from called.measure.now 0 (truths_in (sight_of self) arguments)
    → sight_of inside ≡ record (bind_arguments (top_sight_of called.variables.now called.macros.now) (texts called.defined.now.parameters.items) (map plain_truth truths)) { slots = self.slots }
    → (body : Formula) → called.defined.now.body ≡ IsFormula body
    → IsInside self inside (core_of (sight_of inside) (plain_formula_kind body.kind) body.span) (core_of_macro (found (sight_of self).macros name) self.slots (truths_in (sight_of self) arguments) span)
core_inside self inside called name arguments span is truths given inner body e =
    let top = top_sight_of called.variables.now called.macros.now in
    let parameters = texts called.defined.now.parameters.items in
    let used : sight_of inside ≡ record (bind_arguments top parameters (used_from called.measure.now 0 (truths_in (sight_of self) arguments))) { slots = self.slots } =
    inner ∙ ap (λ ps. record (bind_arguments top parameters ps) { slots = self.slots }) given in
    record {
      slots = ap (λ (s : Sight). s.slots) inner;
      core = formula_called top parameters called.measure.now (plain_body called.defined.now.body) is.skips (truths_in (sight_of self) arguments) self.slots (sight_of inside) used
          (found (sight_of self).macros name) is.expansion (plain_formula body) (ap plain_body e) span;
    }
