use Rattle.std.proofs.Common.{sym, ap, ◌∙◌}
use Rattle.dcv_c.specs.Placed.{unit_of}
use Rattle.dcv_c_read.specs.declared.placed.PlacedUnit.{PlacedUnit}
use Rattle.dcv_c_read.specs.Seen.{seen_unit}
use Rattle.dcv_c_read.proofs.reading.read.Goals as goal

pub returns-clause-read : goal.returns-clause-read
returns-clause-read c = record {
  placed = seen_unit c.in_ok-placed.placed.value;
  spelled = c.in_ok-placed.ensures.spelled;
  is = ap (λ (placed : PlacedUnit). unit_of (seen_unit placed)) (sym c.deref.ensures) ∙ sym c.in_ok-unit.ensures.named;
  well_named = c.keeps_the_rules.ensures.names;
}

pub returns-clause-no_fault : goal.returns-clause-no_fault
returns-clause-no_fault c = λ fault at.
    c.texts_are_units_or_at_fault.ensures.none c.args.bytes.now c.in_ok-unit.unit fault (returns-clause-read c) at
