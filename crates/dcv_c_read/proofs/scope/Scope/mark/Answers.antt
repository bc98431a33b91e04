use Rattle.std.proofs.Common.{map, ap, arith}
use Rattle.std.proofs.lemmas.List.{length-map}
use Rattle.dcv_observer.proofs.Rows.{set_row, none_changed}
use Rattle.dcv_c_read.specs.declared.scope.Declaration.{Declaration}
use Rattle.dcv_c_read.specs.Scope.{seen_row, as_known}
use Rattle.dcv_c_read.proofs.scope.Scope.mark.Goals as goal

pub returns-then-place-len-clause-names : goal.returns-then-place-len-clause-names
returns-then-place-len-clause-names c =
    let names = c.args.self.now.names in
    set_row seen_row as_known names.items c.args.place _ c.index_mut.result.now (ap (λ (name : Declaration). as_known (seen_row name)) c.index_mut.ensures.value)
    (omega (arith, c.if-place-len.true, c.len.ensures, names.ok.0))

pub returns-else-place-len-clause-names : goal.returns-else-place-len-clause-names
returns-else-place-len-clause-names c =
    let names = c.args.self.now.names in
    none_changed as_known c.args.place (map seen_row names.items) (omega (arith, c.if-place-len.false, c.len.ensures, names.ok.0, length-map names.items seen_row))
