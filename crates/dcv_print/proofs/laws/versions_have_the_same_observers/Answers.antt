use Rattle.dcv_print.proofs.Observers.{node_of_versions, unit_of_versions, tables_of_versions}
use Rattle.dcv_print.proofs.laws.versions_have_the_same_observers.Goals as goal

pub returns : goal.returns
returns c = record { node = node_of_versions; unit = unit_of_versions; tables = tables_of_versions }
