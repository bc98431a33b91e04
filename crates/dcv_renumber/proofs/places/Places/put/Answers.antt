use Rattle.std.proofs.Common.{Some, set, ap, ◌∙◌}
use Rattle.dcv_renumber.proofs.PlaceFacts.{written}
use Rattle.dcv_renumber.proofs.places.Places.put.Goals as goal

pub returns : goal.returns
returns c = written c.self.inside.round c.self.inside.became.items c.args.place c.args.new ∙ ap (λ became. set became c.args.place (Some c.args.new)) c.self.view_is
