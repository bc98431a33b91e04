use Rattle.std.proofs.Common.{nat_eq, ap, sym, ◌∙◌}
use Rattle.indexmap.specs.IndexSet.{insert_key}
use Rattle.dcv_dfa.specs.NodeLines.{visit}
use Rattle.dcv_dfa.proofs.Splits.{visit-seen, visit-split}
use Rattle.dcv_dfa.proofs.node_lines.Numbering.+visit.Goals as goal

pub returns-then-contains-clause-places : goal.returns-then-contains-clause-places
returns-then-contains-clause-places t c =
    visit-seen c.args.self.now.arena.now c.requires.arena.reduced c.in-Place.place c.args.root c.args.self.now.places.keys
    c.in-Place.is c.requires.root (sym c.contains.ensures ∙ c.if-contains.true)

pub returns-clause-places : goal.returns-clause-places
returns-clause-places t c =
    let place = c.in-Place.place in
    let at = c.split-lo.ensures in
    let lo = c.in_ok-visit.ensures in
    c.in_ok-insert.ensures.keys
    ∙ ap (λ all. insert_key nat_eq all place) (c.in_ok-visit-2.ensures.places ∙ (λ i. visit (lo.arena i) (lo.places i) c.split-lo.result.1))
    ∙ visit-split c.args.self.now.arena.now c.requires.arena.reduced place c.level-slot.result c.args.root c.split-lo.result.0 c.split-lo.result.1
    c.args.self.now.places.keys c.in-Place.is c.requires.root (sym c.contains.ensures ∙ c.if-contains.false)
    (record { slot = c.level-slot.ensures.level; lo_is_ref = at.lo_is_ref; hi_is_ref = at.hi_is_ref; lo_value = at.lo_value; hi_value = at.hi_value })
