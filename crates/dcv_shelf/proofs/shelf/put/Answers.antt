use Rattle.dcv_shelf.proofs.Shelves.{IsPut, is_put, at_its_number}
use Rattle.dcv_shelf.proofs.shelf.put.Goals as goal
use Rattle.dcv_shelf.proofs.shelf.put.Goals.{In_ok-place}

put : (c : In_ok-place) → IsPut c.args.arena.now c.args.tables.now.keys c.args.stored c.insert_full.new.self.keys
put c =
    is_put c.one_canonical_table.ensures c.args.arena.now c.slots.ensures.arena c.args.tables.now.keys c.requires.each c.requires.once c.args.stored c.requires.stored c.insert_full.new.self.keys
    c.in_ok-place.ensures.keys

pub returns-clause-number : goal.returns-clause-number
returns-clause-number c = record {
  there = at_its_number c.args.arena.now c.insert_full.new.self.keys c.args.stored c.in_ok-place.place c.in_ok-place.ensures.stored;
  no_other = (put c).no_other;
}

pub returns-clause-kept : goal.returns-clause-kept
returns-clause-kept c = (put c).kept

pub returns-clause-each : goal.returns-clause-each
returns-clause-each c = (put c).each

pub returns-clause-once : goal.returns-clause-once
returns-clause-once c = (put c).once
