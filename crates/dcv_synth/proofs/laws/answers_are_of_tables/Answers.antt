use Rattle.dcv_synth.proofs.SameSteps.{controls_of_like_automata, strategies_of_like_automata, tables_go_on_alike}
use Rattle.dcv_synth.proofs.laws.answers_are_of_tables.Goals as goal

pub returns-clause-controls : goal.returns-clause-controls
returns-clause-controls c = controls_of_like_automata

pub returns-clause-strategies : goal.returns-clause-strategies
returns-clause-strategies c = strategies_of_like_automata

pub returns-clause-tables : goal.returns-clause-tables
returns-clause-tables c = tables_go_on_alike c.tables_have_the_states.ensures.states c.tables_have_the_states.ensures.flags c.tables_have_the_states.ensures.steps
