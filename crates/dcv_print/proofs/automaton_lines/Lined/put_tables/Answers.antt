use Rattle.std.proofs.Common.{[]}
use Rattle.dcv_print.proofs.automaton_lines.Lined.put_tables.Goals as goal

pub returns : goal.returns
returns g c = c.put_tables.ensures [] []
