use Rattle.dcv_quotient.proofs.TableQuotients.{some_canonical_table}
use Rattle.dcv_quotient.proofs.laws.some_canonical_table.Goals as goal

pub returns : goal.returns
returns c = some_canonical_table
