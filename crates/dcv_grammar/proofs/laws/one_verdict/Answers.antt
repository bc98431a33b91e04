use Rattle.dcv_grammar.proofs.Steps.{one_verdict}
use Rattle.dcv_grammar.proofs.Verdicts.{some_verdict}
use Rattle.dcv_grammar.proofs.laws.one_verdict.Goals as goal

pub returns-clause-some : goal.returns-clause-some
returns-clause-some c = λ grammar p classes. some_verdict grammar p classes

pub returns-clause-only : goal.returns-clause-only
returns-clause-only c = λ grammar classes verdict other v w. one_verdict grammar classes verdict other v w
