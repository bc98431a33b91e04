use Rattle.std.proofs.Common.{List, ap, subst, sym, ◌∙◌, ◌-◌}
use Rattle.std.specs.Prelude.{slice_get}
use Rattle.dcv_lustre_read.specs.declared.scope.Declaration.{Declaration}
use Rattle.dcv_observer.specs.Conditions.{Names as PlainNames}
use Rattle.dcv_lustre.specs.Tree.{Node as PlainNode}
use Rattle.dcv_lustre_read.specs.Scope.{IsFound}
use Rattle.dcv_lustre_read.proofs.Found.{found_behind, found_nowhere}
use Rattle.dcv_lustre_read.proofs.scope.Scope.find.Goals as goal

pub returns-in_default : goal.returns-in_default
returns-in_default c = λ (node : PlainNode) (earlier : PlainNames) knows.
    found_nowhere node earlier c.args.self.now.declared c.args.self.now.names.items c.args.name.now knows (sym c.place_of.ensures ∙ c.in_default.is)

pub returns : goal.returns
returns c = λ (node : PlainNode) (earlier : PlainNames) knows.
    subst (IsFound node earlier c.args.name.now) (sym (c.declaration_at.ensures ∙ ap (λ (items : List Declaration). slice_get items (c.in-Some.place - 1)) c.deref.ensures.value))
    (found_behind node earlier c.args.self.now.declared c.args.self.now.names.items c.args.name.now knows c.in-Some.place c.if-place-eq0.false (sym c.place_of.ensures ∙ c.in-Some.is))
