use Rattle.dcv_automaton_lines.proofs.WordSets.{passes}
use Rattle.dcv_tables_read.proofs.Numbers.{counts_whole, in_states, in_nodes, in_variables, in_end}
use Rattle.dcv_tables_read.proofs.counts.counts_line.Goals as goal

pub returns-in_err-states-clause-fault : goal.returns-in_err-states-clause-fault
returns-in_err-states-clause-fault c = passes _ _ _ c.in_err-states.field-0.0 c.from_residual.ensures.1 (in_states c.in_err-states.ensures.fault)

pub returns-in_err-nodes-clause-fault : goal.returns-in_err-nodes-clause-fault
returns-in_err-nodes-clause-fault c =
    passes _ _ _ c.in_err-nodes.field-0.0 c.from_residual-in_err-nodes.ensures.1
    (in_nodes _ c.in_ok-states.ensures.small c.in_ok-states.ensures.spelled c.in_err-nodes.ensures.fault)

pub returns-in_err-variables-clause-fault : goal.returns-in_err-variables-clause-fault
returns-in_err-variables-clause-fault c =
    passes _ _ _ c.in_err-variables.field-0.0 c.from_residual-in_err-variables.ensures.1
    (in_variables _ c.in_ok-states.ensures.small c.in_ok-states.ensures.spelled _ c.in_ok-nodes.ensures.small c.in_ok-nodes.ensures.spelled c.in_err-variables.ensures.fault)

pub returns-in_err-rest-clause-fault : goal.returns-in_err-rest-clause-fault
returns-in_err-rest-clause-fault c =
    passes _ _ _ c.in_err-rest.field-0.0 c.from_residual-in_err-rest.ensures.1
    (in_end _ c.in_ok-states.ensures.small c.in_ok-states.ensures.spelled _ c.in_ok-nodes.ensures.small c.in_ok-nodes.ensures.spelled
    _ c.in_ok-variables.ensures.small c.in_ok-variables.ensures.spelled c.in_err-rest.ensures.fault)

pub returns-clause-spelled : goal.returns-clause-spelled
returns-clause-spelled c =
    counts_whole _ _ _ _ _ _ _ _ c.in_ok-states.ensures.spelled c.in_ok-nodes.ensures.spelled c.in_ok-variables.ensures.spelled c.in_ok-rest.ensures.ok
