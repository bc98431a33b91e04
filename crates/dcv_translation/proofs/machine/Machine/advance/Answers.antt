use Rattle.std.proofs.Common.{◌≡◌, ◌<◌, length, map, reverse, Some, refl, sym, ap, ◌∙◌, subst}
use Rattle.std.specs.Prelude.{slice_get}
use Rattle.std.proofs.lemmas.List.{length-map}
use Rattle.dcv_grammar.specs.Grammar.{ContextFree, grammar_of}
use Rattle.dcv_translation.specs.declared.machine.Step.TheVariants.{Rule}
use Rattle.dcv_translation.proofs.Running.{next_is, known_rule, body_turn}
use Rattle.dcv_translation.proofs.machine.Machine.advance.Goals as goal

pub open-requires : goal.open-requires
open-requires g c κs =
    let meaning = g.T.Translation.meaning in
    let scheme = g.T.Translation.scheme in
    let begun = c.args.self.now in
    let steps = c.loop-step.self.steps.items in
    let parts = map meaning c.loop-step.self.parts.items in
    let before = c.pop.new.self.items in
    let number = c.in-Rule.number in
    let top = next_is steps before c.in-Some.step (Rule number) c.in-Some.ensures.items c.in-Rule.is in
    let same : grammar_of c.loop-step.self.grammar ≡ scheme.grammar = ap grammar_of c.loop-step.invariant.0 ∙ c.requires.grammar in
    let known = known_rule scheme c.args.next (reverse begun.steps.items) (map meaning begun.parts.items) (reverse steps) (reverse steps) parts parts
    c.loop-step.invariant.1 c.requires.predictive number 0 (reverse before) top in
    ((refl, tt), subst (λ (grammar : ContextFree). number < length grammar.productions) (sym same) known)

pub loop-step-smaller-in-Continue-1 : goal.loop-step-smaller-in-Continue-1
loop-step-smaller-in-Continue-1 g c =
    let meaning = g.T.Translation.meaning in
    let scheme = g.T.Translation.scheme in
    let begun = c.args.self.now in
    let steps = c.loop-step.self.steps.items in
    let parts = map meaning c.loop-step.self.parts.items in
    let before = c.pop.new.self.items in
    let new = c.open.new.self in
    let number = c.in-Rule.number in
    let top = next_is steps before c.in-Some.step (Rule number) c.in-Some.ensures.items c.in-Rule.is in
    let same : grammar_of c.loop-step.self.grammar ≡ scheme.grammar = ap grammar_of c.loop-step.invariant.0 ∙ c.requires.grammar in
    (body_turn scheme c.args.next (reverse begun.steps.items) (map meaning begun.parts.items) (reverse steps) (reverse new.steps.items) parts (map meaning new.parts.items)
    c.loop-step.invariant.1 c.requires.predictive number (length c.loop-step.self.parts.items) (reverse before) top
    (sym (length-map c.loop-step.self.parts.items meaning)) (ap (λ p. map meaning p.items) c.open.ensures.parts)
    (λ rule at. c.in_ok-open-in-Rule.ensures.steps rule (subst (λ (grammar : ContextFree). slice_get grammar.productions number ≡ Some rule) (sym same) at))).1

pub loop-step-preserved-in-Continue-1 : goal.loop-step-preserved-in-Continue-1
loop-step-preserved-in-Continue-1 g c =
    let meaning = g.T.Translation.meaning in
    let scheme = g.T.Translation.scheme in
    let begun = c.args.self.now in
    let steps = c.loop-step.self.steps.items in
    let parts = map meaning c.loop-step.self.parts.items in
    let before = c.pop.new.self.items in
    let new = c.open.new.self in
    let number = c.in-Rule.number in
    let top = next_is steps before c.in-Some.step (Rule number) c.in-Some.ensures.items c.in-Rule.is in
    let same : grammar_of c.loop-step.self.grammar ≡ scheme.grammar = ap grammar_of c.loop-step.invariant.0 ∙ c.requires.grammar in (
      c.open.ensures.grammar ∙ c.loop-step.invariant.0,
      (body_turn scheme c.args.next (reverse begun.steps.items) (map meaning begun.parts.items) (reverse steps) (reverse new.steps.items) parts (map meaning new.parts.items)
          c.loop-step.invariant.1 c.requires.predictive number (length c.loop-step.self.parts.items) (reverse before) top
          (sym (length-map c.loop-step.self.parts.items meaning)) (ap (λ p. map meaning p.items) c.open.ensures.parts)
          (λ rule at. c.in_ok-open-in-Rule.ensures.steps rule (subst (λ (grammar : ContextFree). slice_get grammar.productions number ≡ Some rule) (sym same) at))).0,
    )
