use Rattle.std.proofs.Common.{bytes_eq, ap, ◌∙◌}
use Rattle.std.specs.List.{list_any}
use Rattle.dcv_observer.proofs.Keys.{any_seen}
use Rattle.dcv_observer.proofs.names.Declared.contains.Goals as goal

pub returns : goal.returns
returns c =
    c.contains.ensures ∙ any_seen (bytes_eq c.args.name.now) (λ name. name.now) c.self.inside.names.keys
    ∙ ap (list_any (bytes_eq c.args.name.now)) c.self.view_is
