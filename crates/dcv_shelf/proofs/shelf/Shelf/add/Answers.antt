use Rattle.std.proofs.Common.{◌≡◌, List, map, IfOk, sym, ap, subst, ◌∙◌}
use Rattle.dcv_shelf.specs.Shelf.{ShelfTable, ShelfValue, KeepsNumbers, HasNumber}
use Rattle.dcv_shelf.specs.Stored.{stored_table}
use Rattle.dcv_shelf.proofs.Shelves.{all_kept, tables_kept, shelf_kept, at_err, each_err}
use Rattle.dcv_shelf.proofs.shelf.Shelf.add.Goals as goal
use Rattle.dcv_shelf.proofs.shelf.Shelf.add.Goals.{After-of}

-- the tables are what they were in the arena that has grown
same_tables : (c : After-of) → map (stored_table c.of.new.arena) c.self.inside.tables.keys ≡ c.args.self.now.tables
same_tables c =
    tables_kept c.self.inside.arena c.of.new.arena c.of.ensures.kept c.self.inside.tables.keys c.self.invariant.each
    ∙ ap (λ (shelf : ShelfValue). shelf.tables) c.self.view_is

pub invariant_of-self : goal.invariant_of-self
invariant_of-self c = shelf_kept c.self.inside.arena c.of.new.arena c.of.ensures.kept c.self.inside.tables.keys c.self.invariant

pub returns-in_err-stored-clause-refused : goal.returns-in_err-stored-clause-refused
returns-in_err-stored-clause-refused c = at_err c.from_residual.result (same_tables (goal.at.returns-in_err-stored-clause-refused c).After-of)

pub returns-in_err-stored-clause-kept : goal.returns-in_err-stored-clause-kept
returns-in_err-stored-clause-kept c =
    subst (KeepsNumbers c.args.self.now.tables) (sym (same_tables (goal.at.returns-in_err-stored-clause-kept c).After-of)) (λ number one at. at)

pub returns-in_err-stored-clause-once : goal.returns-in_err-stored-clause-once
returns-in_err-stored-clause-once c = (shelf_kept c.self.inside.arena c.of.new.arena c.of.ensures.kept c.self.inside.tables.keys c.self.invariant).once

pub put-requires-clause-each : goal.put-requires-clause-each
put-requires-clause-each c = all_kept c.self.inside.arena c.of.new.arena c.of.ensures.kept c.self.inside.tables.keys c.self.invariant.each

pub put-requires-clause-once : goal.put-requires-clause-once
put-requires-clause-once c = (shelf_kept c.self.inside.arena c.of.new.arena c.of.ensures.kept c.self.inside.tables.keys c.self.invariant).once

pub returns-clause-added : goal.returns-clause-added
returns-clause-added c =
    let after = map (stored_table c.of.new.arena) c.put.new.tables.keys in
    subst (λ (one : ShelfTable). IfOk c.put.result (HasNumber c.args.self.now.tables one after)) c.in_ok-stored.ensures.table
    (subst (λ (tables : List ShelfTable). IfOk c.put.result (HasNumber tables (stored_table c.of.new.arena c.in_ok-stored.stored) after))
    (same_tables (goal.at.returns-clause-added c).After-of) c.put.ensures.number)

pub returns-clause-refused : goal.returns-clause-refused
returns-clause-refused c =
    each_err c.put.result (λ same. ap (map (stored_table c.of.new.arena)) same ∙ same_tables (goal.at.returns-clause-refused c).After-of) c.put.ensures.refused

pub returns-clause-kept : goal.returns-clause-kept
returns-clause-kept c =
    subst (λ (tables : List ShelfTable). KeepsNumbers tables (map (stored_table c.of.new.arena) c.put.new.tables.keys))
    (same_tables (goal.at.returns-clause-kept c).After-of) c.put.ensures.kept
