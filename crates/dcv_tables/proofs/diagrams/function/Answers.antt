use Rattle.dcv_tables.proofs.RowFacts.{table_of_row}
use Rattle.dcv_tables.proofs.diagrams.function.Goals as goal

pub returns-in-Ok-clause-row : goal.returns-in-Ok-clause-row
returns-in-Ok-clause-row c = table_of_row c.part.new.arena c.args.numbers.now c.in-Ok.root c.in-Ok.ensures.row
