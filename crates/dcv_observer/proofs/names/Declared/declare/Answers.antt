use Rattle.std.proofs.Common.{not, bytes_eq, ap, ◌∙◌}
use Rattle.std.specs.List.{list_any}
use Rattle.dcv_observer.proofs.Keys.{any_seen}
use Rattle.dcv_observer.proofs.names.Declared.declare.Goals as goal

pub returns-clause-new : goal.returns-clause-new
returns-clause-new c =
    c.in_ok-new.ensures.added ∙ ap not (any_seen (bytes_eq c.args.name.now) (λ name. name.now) c.self.inside.names.keys)
    ∙ ap (λ names. not (list_any (bytes_eq c.args.name.now) names)) c.self.view_is
