use Rattle.std.proofs.Common.{rules, tests, ◌≡◌, List, Bor, ap, sym, ◌∙◌}
use Rattle.std.specs.Str.{bytes_eq}
use Rattle.std.proofs.lemmas.Iterator.{YieldsList-from_slice}
use Rattle.std.proofs.lemmas.Iterator.Search.{find_from_yields_List}
use Rattle.std.specs.Option.{option_map}
use Rattle.dcv_logic.specs.Environment.{found}
use Rattle.dcv_scope.specs.declared.expansion.Binding.{Binding}
use Rattle.dcv_scope.specs.Expansions.{meant, names_of}
use Rattle.dcv_scope.proofs.Finding.{found_by}
use Rattle.dcv_scope.proofs.expansion.Sight.meaning.Goals.{After-find}
use Rattle.dcv_scope.proofs.expansion.Sight.meaning.Goals as goal

meant_by : (c : After-find) → option_map (λ (b : Bor Binding). meant b.now.meaning) c.find.result ≡ found (names_of c.args.self.now.names.items) c.args.name.now
meant_by c =
    let name = c.args.name.now in
    let names = c.deref.result.now in
    found_by (λ (b : Binding). b.name.now.text) (λ (b : Binding). meant b.meaning) name c.find.result names
    (find_from_yields_List (λ (b : Binding). bytes_eq b.name.now.text name) _ _ c.find.result c.find.ensures.ran (YieldsList-from_slice names cc) (λ x b q k. search (rules, tests)))
    ∙ ap (λ (ns : List Binding). found (names_of ns) name) c.deref.ensures.value

pub returns : goal.returns
returns c =
    sym (ap (option_map (λ (b : Bor Binding). meant b.now.meaning)) c.in_ok-binding.was)
    ∙ meant_by (goal.at.returns c).After-find

pub returns-in_err-binding : goal.returns-in_err-binding
returns-in_err-binding c =
    ap (option_map meant) c.from_residual.ensures
    ∙ sym (ap (option_map (λ (b : Bor Binding). meant b.now.meaning)) c.in_err-binding.was)
    ∙ meant_by (goal.at.returns-in_err-binding c).After-find
