use Rattle.std.proofs.Common.{◌≡◌, ◌++◌, ◌∷◌, [], map, take, drop, refl, sym, ap, ◌∙◌, subst}
use Rattle.std.proofs.lemmas.List.{map-append, drop-map, take-map}
use Rattle.dcv_translation.specs.Scheme.{IsOfBody}
use Rattle.dcv_translation.proofs.machine.Machine.close.Goals as goal

pub rule-requires : goal.rule-requires
rule-requires g c κs =
    let meaning = g.T.Translation.meaning in
    let old = c.args.self.now.parts.items in
    let own : drop c.args.first (map meaning old) ≡ map meaning c.refill.new.self = drop-map meaning c.args.first old ∙ ap (map meaning) (sym c.in_ok-refill.ensures.parts) in
    ((refl, tt), subst (IsOfBody g.T.Translation.scheme c.args.rule) own c.requires.body)

pub returns-in-Ok-clause-parts : goal.returns-in-Ok-clause-parts
returns-in-Ok-clause-parts g c =
    let meaning = g.T.Translation.meaning in
    let action = g.T.Translation.scheme.action c.args.rule in
    let old = c.args.self.now.parts.items in
    let first = c.args.first in
    let own : map meaning c.refill.new.self ≡ drop first (map meaning old) = ap (map meaning) c.in_ok-refill.ensures.parts ∙ sym (drop-map meaning first old) in
    let before : map meaning c.refill.new.stack.items ≡ take first (map meaning old) = ap (map meaning) c.in_ok-refill.ensures.stack ∙ sym (take-map meaning first old) in
    ap (map meaning) (c.push_reserved.ensures.items ∙ ap (λ all. all ++ c.in-Ok.part ∷ []) c.in_ok-reserve.ensures.items)
    ∙ map-append meaning c.refill.new.stack.items (c.in-Ok.part ∷ [])
    ∙ (λ i. before i ++ (c.in-Ok.ensures ∙ ap action own) i ∷ [])
