use Rattle.std.proofs.Common.{List, ap, subst, sym, ◌∙◌}
use Rattle.std.specs.Prelude.{slice_get}
use Rattle.dcv_c_read.specs.declared.scope.Declaration.{Declaration}
use Rattle.dcv_c_read.specs.Scope.{Frame, IsFound}
use Rattle.dcv_c_read.proofs.Found.{found_there, found_nowhere}
use Rattle.dcv_c_read.proofs.scope.Scope.find.Goals as goal

pub returns-in_default : goal.returns-in_default
returns-in_default c = λ (frame : Frame) knows.
    found_nowhere frame _ c.args.self.now.declared c.args.self.now.names.items c.args.name.now knows (sym c.place_of.ensures ∙ c.in_default.is)

pub returns : goal.returns
returns c = λ (frame : Frame) knows.
    subst (IsFound frame c.args.name.now) (sym (c.declaration_at.ensures ∙ ap (λ (items : List Declaration). slice_get items c.in-Some.place) c.deref.ensures.value))
    (found_there frame _ c.args.self.now.declared c.args.self.now.names.items c.args.name.now knows c.in-Some.place (sym c.place_of.ensures ∙ c.in-Some.is))
