use Rattle.std.proofs.Common.{rules, tests}
use Rattle.std.specs.Str.{bytes_eq}
use Rattle.std.proofs.lemmas.Iterator.{YieldsList-from_slice}
use Rattle.std.proofs.lemmas.Iterator.Search.{find_from_yields_List}
use Rattle.dcv_syntax.specs.declared.files.Macro.{Macro}
use Rattle.dcv_scope.proofs.Finding.{macro_taken, macro_signature}
use Rattle.dcv_scope.proofs.naming.Sight.called.Goals as goal

pub returns : goal.returns
returns c =
    let macros = c.args.self.now.macros.now in
    let name = c.args.name.now in
    let is = find_from_yields_List (λ (m : Macro). bytes_eq m.name.text name) _ _ c.find.result c.find.ensures.ran (YieldsList-from_slice macros cc) (λ x b q k. search (rules, tests)) in
    record { taken = macro_taken macros name c.find.result is; signature = macro_signature macros name c.find.result is }
