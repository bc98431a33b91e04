use Rattle.dcv_quotient.proofs.WordOrder.{word_laws}
use Rattle.dcv_existence.proofs.SomeBudgets.{some_budget, counts_within, table_of_core}
use Rattle.dcv_existence.proofs.laws.some_budget.Goals as goal

pub returns-clause-budget : goal.returns-clause-budget
returns-clause-budget c = λ k tree limits. some_budget k tree limits word_laws c.machines_accept_steps.ensures

pub returns-clause-counts : goal.returns-clause-counts
returns-clause-counts c = counts_within

pub returns-clause-table : goal.returns-clause-table
returns-clause-table c = table_of_core
