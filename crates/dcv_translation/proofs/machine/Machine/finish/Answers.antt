use Rattle.std.proofs.Common.{◌∙◌, map, reverse, sym, arith}
use Rattle.dcv_translation.proofs.Running.{ends, no_whole, whole_made, whatever_was_popped, only_popped}
use Rattle.dcv_translation.proofs.machine.Machine.finish.Goals as goal

pub returns-then-is_some-clause-whole : goal.returns-then-is_some-clause-whole
returns-then-is_some-clause-whole g c = λ whole under.
    let meaning = g.T.Translation.meaning in
    let old = c.args.self in
    let new = c.advance.new.self in
    absurd (no_whole g.T.Translation.scheme (reverse old.steps.items) (reverse new.steps.items) (map meaning old.parts.items) (map meaning new.parts.items)
    c.in_ok-advance.field-0 c.in_ok-advance.ensures.advances (sym c.is_some.ensures ∙ c.if-is_some.true) whole under)

pub returns-clause-ended : goal.returns-clause-ended
returns-clause-ended g c =
    let meaning = g.T.Translation.meaning in
    let old = c.args.self in
    let new = c.advance.new.self in
    whatever_was_popped c.pop.result
    (ends g.T.Translation.scheme (reverse old.steps.items) (reverse new.steps.items) (map meaning old.parts.items) (map meaning new.parts.items)
    c.in_ok-advance.field-0 c.in_ok-advance.ensures.advances (sym c.is_some.ensures ∙ c.if-is_some.false))

pub returns-clause-whole : goal.returns-clause-whole
returns-clause-whole g c = λ whole under.
    let meaning = g.T.Translation.meaning in
    let old = c.args.self in
    let new = c.advance.new.self in
    let parts = new.parts.items in
    let made = whole_made g.T.Translation.scheme (reverse old.steps.items) (reverse new.steps.items) (map meaning old.parts.items) (map meaning parts)
    c.in_ok-advance.field-0 c.in_ok-advance.ensures.advances whole under in
    only_popped meaning parts c.pop.new.self.items c.pop.result whole c.pop.ensures.items (λ some. c.pop.ensures.variant.1 (omega (arith, some))) made
