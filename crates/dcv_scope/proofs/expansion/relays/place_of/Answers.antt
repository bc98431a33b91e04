use Rattle.std.proofs.Common.{rules, tests, ◌∙◌}
use Rattle.std.specs.Str.{bytes_eq}
use Rattle.std.proofs.lemmas.Iterator.{YieldsList-from_slice}
use Rattle.std.proofs.lemmas.Iterator.Search.{position_from_yields_List}
use Rattle.dcv_syntax.specs.declared.names.Name.{Name}
use Rattle.dcv_scope.proofs.Finding.{place_found}
use Rattle.dcv_scope.proofs.expansion.relays.place_of.Goals as goal

pub returns : goal.returns
returns c =
    let name = c.args.name.now in
    let parameters = c.args.parameters.now in
    position_from_yields_List (λ (n : Name). bytes_eq n.text name) _ _ c.position.result c.position.ensures.ran (YieldsList-from_slice parameters cc) (λ x b q k. search (rules, tests))
    ∙ place_found parameters name
