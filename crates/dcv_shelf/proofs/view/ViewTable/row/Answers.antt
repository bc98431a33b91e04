use Rattle.std.proofs.Common.{Some, get_or, sym, ap, ◌∙◌}
use Rattle.std.proofs.lemmas.Option.{slice_get-get_or}
use Rattle.dcv_shelf.specs.Stored.{ViewValue}
use Rattle.dcv_shelf.proofs.Views.{row_steps}
use Rattle.dcv_shelf.proofs.view.ViewTable.row.Goals as goal

pub returns-clause-steps : goal.returns-clause-steps
returns-clause-steps c letter size =
    let state = c.index.result.now in
    let items = c.args.self.now.stored.states.items in
    let is = c.index.ensures ∙ ap (λ (view : ViewValue). get_or view.stored.states.items c.args.state state) c.self.view_is in
    row_steps c.args.self.now.arena c.args.self.now.stored c.args.state state (slice_get-get_or items c.args.state state c.requires ∙ ap Some (sym is)) letter size
