use Rattle.std.proofs.Common.{bytes_eq, ap, ◌∙◌}
use Rattle.std.specs.List.{position}
use Rattle.dcv_observer.proofs.Keys.{position_seen}
use Rattle.dcv_observer.proofs.names.Declared.place_of.Goals as goal

pub returns : goal.returns
returns c =
    c.get_index_of.ensures.index ∙ position_seen (bytes_eq c.args.name.now) (λ name. name.now) c.self.inside.names.keys
    ∙ ap (position (bytes_eq c.args.name.now)) c.self.view_is
