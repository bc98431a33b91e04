use Rattle.std.proofs.Common.{rules, tests, List, Bor, ap, ◌∙◌}
use Rattle.std.specs.Str.{bytes_eq}
use Rattle.std.proofs.lemmas.Iterator.{YieldsList-from_slice}
use Rattle.std.proofs.lemmas.Iterator.Search.{any_from_yields_List}
use Rattle.dcv_syntax.specs.declared.names.Name.{Name}
use Rattle.dcv_tracks.proofs.GoalSteps.{any_of_all}
use Rattle.dcv_scope.specs.Names.{stands_in}
use Rattle.dcv_scope.specs.Sights.{texts_of}
use Rattle.dcv_scope.proofs.naming.Sight.is_variable.Goals as goal

pub returns : goal.returns
returns c =
    let name = c.args.name.now in
    any_from_yields_List (λ (n : Bor Name). bytes_eq n.now.text name) _ _ c.any.result c.any.ensures.ran (YieldsList-from_slice c.deref.result.now cc) (λ x b q k. search (rules, tests))
    ∙ any_of_all (λ (n : Bor Name). n.now.text) (λ other. bytes_eq other name) c.deref.result.now
    ∙ ap (λ (names : List (Bor Name)). stands_in name (texts_of names)) c.deref.ensures.value
