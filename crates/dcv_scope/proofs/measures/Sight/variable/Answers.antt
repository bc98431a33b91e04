use Rattle.std.proofs.Common.{rules, tests, ◌≡◌, ◌∙◌}
use Rattle.std.specs.Str.{bytes_eq}
use Rattle.std.proofs.lemmas.Iterator.{YieldsList-from_slice}
use Rattle.std.proofs.lemmas.Iterator.Search.{any_from_yields_List}
use Rattle.dcv_syntax.specs.declared.names.Name.{Name}
use Rattle.std.specs.Bool.{then_some}
use Rattle.std.specs.List.{list_any}
use Rattle.dcv_scope.specs.Measures.{leaf}
use Rattle.dcv_scope.specs.Linear.{capped_macro}
use Rattle.dcv_scope.specs.Walk.{constant}
use Rattle.dcv_scope.proofs.Finding.{found_alike}
use Rattle.dcv_scope.proofs.measures.Sight.variable.Goals as goal

pub returns : goal.returns
returns c =
    let name = c.args.name.now in
    let names = c.args.self.now.declared.now in
    let some : c.any-is_declared.result ≡ list_any (λ (n : Name). bytes_eq n.text name) names =
    any_from_yields_List (λ (n : Name). bytes_eq n.text name) _ _ c.any-is_declared.result c.any-is_declared.ensures.ran (YieldsList-from_slice names cc) (λ x b q k. search (rules, tests)) in
    c.then_some.ensures
    ∙ (λ i. then_some (some i) (c.leaf.ensures i))
    ∙ found_alike (λ (n : Name). n.text) capped_macro (constant leaf) name names
