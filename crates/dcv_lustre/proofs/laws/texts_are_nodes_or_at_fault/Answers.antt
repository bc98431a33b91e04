use Rattle.dcv_observer.proofs.Readings.{some_reading, no_fault_where_read, one_fault}
use Rattle.dcv_lustre.proofs.Readings.{is_subset}
use Rattle.dcv_lustre.proofs.laws.texts_are_nodes_or_at_fault.Goals as goal

pub returns-clause-some : goal.returns-clause-some
returns-clause-some c = some_reading is_subset

pub returns-clause-none : goal.returns-clause-none
returns-clause-none c = no_fault_where_read is_subset

pub returns-clause-one : goal.returns-clause-one
returns-clause-one c = one_fault is_subset
