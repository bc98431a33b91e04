use Rattle.std.proofs.Common.{◌∙◌, ap, List}
use Rattle.std.specs.List.{list_all}
use Rattle.dcv_lustre.specs.Tree.{Node}
use Rattle.dcv_lustre_read.specs.declared.scope.Declaration.{Declaration}
use Rattle.dcv_lustre_read.proofs.Lefts.{all_known}
use Rattle.dcv_lustre_read.proofs.scope.Scope.has_all_equations.Goals as goal

pub returns : goal.returns
returns c = λ (node : Node) knows.
    c.are_known.ensures ∙ ap (λ (names : List Declaration). list_all (λ (name : Declaration). name.known) names) c.deref.ensures.value
    ∙ all_known node c.args.self.now.declared c.args.self.now.names.items knows
