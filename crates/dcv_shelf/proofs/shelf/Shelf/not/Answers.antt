use Rattle.std.proofs.Common.{List, map, get_or, ap, subst, ◌∙◌}
use Rattle.dcv_shelf.specs.Shelf.{ShelfTable, ShelfValue, HasNumber}
use Rattle.dcv_shelf.specs.Stored.{stored_table}
use Rattle.dcv_shelf.specs.declared.stored.Stored.{Stored}
use Rattle.dcv_shelf.proofs.Turned.{turned_is_stored, turned_is_complement, stored_there, complement_there, each_ok}
use Rattle.dcv_shelf.proofs.shelf.Shelf.not.Goals as goal

pub put-requires-clause-stored : goal.put-requires-clause-stored
put-requires-clause-stored c =
    let arena = c.self.inside.arena in
    let keys = c.self.inside.tables.keys in
    let old = c.index-as_slice-number.result in
    let at = c.index-as_slice-number.is ∙ ap (λ (keys : List Stored). get_or keys c.args.number old) c.as_slice.ensures.keys in
    let was = stored_there arena keys c.args.self.now.tables (ap (λ (shelf : ShelfValue). shelf.tables) c.self.view_is) c.args.number c.requires old at c.self.invariant.each in
    turned_is_stored c.complement_is_canonical.ensures arena old c.in_ok-turned.turned was c.in_ok-turned.ensures

pub returns-clause-added : goal.returns-clause-added
returns-clause-added c one there =
    let arena = c.self.inside.arena in
    let keys = c.self.inside.tables.keys in
    let tables = c.args.self.now.tables in
    let old = c.index-as_slice-number.result in
    let same = ap (λ (shelf : ShelfValue). shelf.tables) c.self.view_is in
    let at = c.index-as_slice-number.is ∙ ap (λ (keys : List Stored). get_or keys c.args.number old) c.as_slice.ensures.keys in
    let was = stored_there arena keys tables same c.args.number c.requires old at c.self.invariant.each in
    let is = turned_is_complement c.complement_is_canonical.ensures arena old c.in_ok-turned.turned was c.in_ok-turned.ensures in
    let after = map (stored_table arena) c.put.new.tables.keys in
    each_ok c.put.result
    (λ place numbered. complement_there arena keys tables same c.args.number c.requires old at c.in_ok-turned.turned is one there after place
    (subst (λ (before : List ShelfTable). HasNumber before (stored_table arena c.in_ok-turned.turned) after place) same numbered)) c.put.ensures.number
