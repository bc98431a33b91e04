use Rattle.dcv_quotient.proofs.SomeDiagrams.{some_diagrams}
use Rattle.dcv_existence.proofs.laws.some_diagrams.Goals as goal

pub returns : goal.returns
returns c = some_diagrams
