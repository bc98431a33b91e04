use Rattle.std.proofs.Common.{List, true, map, reverse, sym, subst, ◌∙◌}
use Rattle.dcv_grammar.proofs.Stacks.{same_class, other_class, not_true, not_false}
use Rattle.dcv_translation.specs.UnderWay.{Takes}
use Rattle.dcv_translation.specs.declared.machine.Step.{Step}
use Rattle.dcv_translation.proofs.Running.{takes, sticks}
use Rattle.dcv_translation.proofs.machine.Machine.take.Goals as goal

pub returns-then-ne-clause-taken : goal.returns-then-ne-clause-taken
returns-then-ne-clause-taken g c =
    let meaning = g.T.Translation.meaning in
    let old = c.args.self.now in
    let parts = map meaning c.advance.new.self.parts.items in
    let wanted = c.in_ok-wanted.wanted in
    let other = other_class wanted c.args.class (not_false _ (sym c.ne.ensures ∙ c.if-ne.true)) in
    sticks g.T.Translation.scheme (reverse old.steps.items) (reverse c.advance.new.self.steps.items) (map meaning old.parts.items) parts wanted
    (g.T.Translation.seen c.args.token) c.args.class c.requires.class c.in_ok-wanted.ensures.advances other parts

pub returns-clause-taken : goal.returns-clause-taken
returns-clause-taken g c =
    let meaning = g.T.Translation.meaning in
    let scheme = g.T.Translation.scheme in
    let old = c.args.self.now in
    let parts = c.advance.new.self.parts.items in
    let wanted = c.in_ok-wanted.wanted in
    let same = same_class wanted c.args.class (not_true _ (sym c.ne.ensures ∙ c.if-ne.false)) in
    subst (λ (steps : List Step). Takes scheme (g.T.Translation.seen c.args.token) true (reverse old.steps.items) (map meaning old.parts.items) (reverse steps) (map meaning c.add.new.self.parts.items))
    (sym c.in_ok-add.ensures.steps)
    (takes scheme (reverse old.steps.items) (reverse c.advance.new.self.steps.items) (map meaning old.parts.items) (map meaning parts) wanted
    (g.T.Translation.seen c.args.token) c.args.class c.requires.class c.in_ok-wanted.ensures.advances same (map meaning c.add.new.self.parts.items) c.in_ok-add.ensures.parts)
