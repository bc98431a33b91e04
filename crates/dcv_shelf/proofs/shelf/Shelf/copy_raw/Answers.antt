use Rattle.std.proofs.Common.{List, get_or, Some, ap, sym, ◌∙◌}
use Rattle.dcv_shelf.specs.Shelf.{ShelfValue}
use Rattle.dcv_shelf.specs.declared.stored.Stored.{Stored}
use Rattle.dcv_shelf.proofs.Turned.{table_there, each_ok}
use Rattle.dcv_shelf.proofs.shelf.Shelf.copy_raw.Goals as goal

pub returns-clause-table : goal.returns-clause-table
returns-clause-table c =
    let keys = c.self.inside.tables.keys in
    let old = c.index-as_slice-number.result in
    let at = c.index-as_slice-number.is ∙ ap (λ (keys : List Stored). get_or keys c.args.number old) c.as_slice.ensures.keys in
    let there = table_there c.self.inside.arena keys c.args.self.now.tables (ap (λ (shelf : ShelfValue). shelf.tables) c.self.view_is) c.args.number c.requires old at in
    each_ok c.raw_of.result (λ raw same. there ∙ ap Some (sym same)) c.raw_of.ensures.table
