use Rattle.std.proofs.Common.{rules, tests, ◌≡◌, Some, ap, sym, ◌∙◌}
use Rattle.std.specs.Str.{bytes_eq}
use Rattle.std.proofs.lemmas.Iterator.{YieldsList-from_slice}
use Rattle.std.proofs.lemmas.Iterator.Search.{position_from_yields_List}
use Rattle.dcv_syntax.specs.declared.names.Name.{Name}
use Rattle.std.specs.Option.{option_map}
use Rattle.dcv_logic.specs.Environment.{found}
use Rattle.dcv_scope.specs.Linear.{capped_macro}
use Rattle.dcv_scope.specs.Walk.{argument_at, parameters_from}
use Rattle.dcv_scope.proofs.Finding.{argument_found}
use Rattle.dcv_scope.proofs.measures.Sight.parameter.Goals.{After-position}
use Rattle.dcv_scope.proofs.measures.Sight.parameter.Goals as goal

argument : (c : After-position) → option_map (λ k. capped_macro (argument_at k)) c.position.result
    ≡ option_map capped_macro (found (parameters_from 0 c.args.self.now.parameters.now) c.args.name.now)
argument c =
    let name = c.args.name.now in
    let names = c.args.self.now.parameters.now in
    argument_found names name c.position.result
    (position_from_yields_List (λ (n : Name). bytes_eq n.text name) _ _ c.position.result c.position.ensures.ran (YieldsList-from_slice names cc) (λ x b q k. search (rules, tests)))

pub returns : goal.returns
returns c =
    ap Some c.argument.ensures
    ∙ sym (ap (option_map (λ k. capped_macro (argument_at k))) c.in_ok-place.was)
    ∙ argument (goal.at.returns c).After-position

pub returns-in_err-place : goal.returns-in_err-place
returns-in_err-place c =
    c.from_residual.ensures
    ∙ sym (ap (option_map (λ k. capped_macro (argument_at k))) c.in_err-place.was)
    ∙ argument (goal.at.returns-in_err-place c).After-position
