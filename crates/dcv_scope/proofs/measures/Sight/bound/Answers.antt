use Rattle.std.proofs.Common.{rules, tests, ◌≡◌, List, Bor, ap, ◌∙◌}
use Rattle.std.specs.Str.{bytes_eq}
use Rattle.std.proofs.lemmas.Iterator.{YieldsList-from_slice}
use Rattle.std.proofs.lemmas.Iterator.Search.{any_from_yields_List}
use Rattle.dcv_syntax.specs.declared.names.Name.{Name}
use Rattle.std.specs.Bool.{then_some}
use Rattle.std.specs.List.{list_any}
use Rattle.std.specs.Option.{option_map}
use Rattle.dcv_logic.specs.Environment.{found}
use Rattle.dcv_scope.specs.Measures.{leaf}
use Rattle.dcv_scope.specs.Linear.{capped_macro}
use Rattle.dcv_scope.specs.Walk.{constant, quantified_leaves}
use Rattle.dcv_scope.proofs.Finding.{found_alike}
use Rattle.dcv_scope.proofs.measures.Sight.bound.Goals as goal

pub returns : goal.returns
returns c =
    let name = c.args.name.now in
    let names = c.deref.result.now in
    let some : c.any-is_bound.result ≡ list_any (λ (n : Bor Name). bytes_eq n.now.text name) names =
    any_from_yields_List (λ (n : Bor Name). bytes_eq n.now.text name) _ _ c.any-is_bound.result c.any-is_bound.ensures.ran (YieldsList-from_slice names cc) (λ x b q k. search (rules, tests)) in
    c.then_some.ensures
    ∙ (λ i. then_some (some i) (c.leaf.ensures i))
    ∙ found_alike (λ (n : Bor Name). n.now.text) capped_macro (constant leaf) name names
    ∙ ap (λ (ns : List (Bor Name)). option_map capped_macro (found (quantified_leaves ns) name)) c.deref.ensures.value
