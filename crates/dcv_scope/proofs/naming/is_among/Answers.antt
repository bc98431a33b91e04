use Rattle.std.proofs.Common.{rules, tests, ◌∙◌}
use Rattle.std.specs.Str.{bytes_eq}
use Rattle.std.proofs.lemmas.Iterator.{YieldsList-from_slice}
use Rattle.std.proofs.lemmas.Iterator.Search.{any_from_yields_List}
use Rattle.dcv_syntax.specs.declared.names.Name.{Name}
use Rattle.dcv_tracks.proofs.GoalSteps.{any_of_all}
use Rattle.dcv_scope.proofs.naming.is_among.Goals as goal

pub returns : goal.returns
returns c =
    let text = c.args.text.now in
    any_from_yields_List (λ (n : Name). bytes_eq n.text text) _ _ c.any.result c.any.ensures.ran (YieldsList-from_slice c.args.names.now cc) (λ x b q k. search (rules, tests))
    ∙ any_of_all (λ (n : Name). n.text) (λ other. bytes_eq other text) c.args.names.now
