use Rattle.std.proofs.Common.{◌≡◌, ◌++◌, ◌∷◌, [], List, length, map, reverse, Some, sym, ap, ◌∙◌, arith}
use Rattle.dcv_grammar.specs.declared.grammar.Symbol.{Symbol}
use Rattle.dcv_grammar.specs.Grammar.{production_of}
use Rattle.dcv_grammar.specs.Picked.{body_for}
use Rattle.dcv_translation.specs.UnderWay.{step_of}
use Rattle.dcv_translation.specs.declared.machine.Step.TheVariants.{Close}
use Rattle.dcv_translation.proofs.Running.{steps_pushed}
use Rattle.dcv_translation.proofs.machine.Machine.open.Goals as goal

pub returns-clause-steps : goal.returns-clause-steps
returns-clause-steps g c = λ rule at.
    let body = c.body_for.result.now in
    let old = c.args.self.now.steps.items in
    let found : Some (production_of c.rule.result) ≡ Some rule = sym c.rule.ensures ∙ at in
    let same : production_of c.rule.result ≡ rule = cc in
    let is : body ≡ body_for rule c.args.next = c.body_for.ensures ∙ ap (λ r. body_for r c.args.next) same in
    let close = Close c.args.number (length c.args.self.now.parts.items) in
    let made : c.len.result ≡ length c.args.self.now.parts.items = grind (arith, c.len.ensures) in
    let pushed : c.push_steps.new.steps.items ≡ (old ++ close ∷ []) ++ map step_of (reverse body) =
    c.in_ok-push_steps.ensures ∙ ap (λ l. l ++ map step_of (reverse body)) (c.in_ok-push.ensures.items ∙ ap (λ n. old ++ Close c.args.number n ∷ []) made) in
    ap reverse pushed ∙ steps_pushed old close body ∙ ap (λ (b : List Symbol). map step_of b ++ close ∷ reverse old) is
