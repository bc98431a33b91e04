use Rattle.dcv_tables_read.proofs.OneFault.{spells_one, no_fault_where_read, one_fault}
use Rattle.dcv_tables_read.proofs.SomeReadings.{some_reading}
use Rattle.dcv_tables_read.proofs.laws.texts_are_units_or_at_fault.Goals as goal

pub returns : goal.returns
returns c = record { unit = spells_one; none = no_fault_where_read; one = one_fault; some = some_reading }
