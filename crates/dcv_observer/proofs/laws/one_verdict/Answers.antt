use Rattle.dcv_observer.proofs.Faults.{some_found, one_found}
use Rattle.dcv_observer.proofs.laws.one_verdict.Goals as goal

pub returns-clause-some : goal.returns-clause-some
returns-clause-some c = λ lexicon grammar p text. some_found lexicon grammar text p

pub returns-clause-only : goal.returns-clause-only
returns-clause-only c = one_found
