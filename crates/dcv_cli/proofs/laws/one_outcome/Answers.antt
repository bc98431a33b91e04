-- A text has one first fault or holds one file, one step is the first over the limits, and a set of behaviours has one verdict, so one outcome is right.
use Rattle.dcv_cli.proofs.OneOutcome.{one_outcome}
use Rattle.dcv_cli.proofs.OneSynthesis.{one_synthesis_of}
use Rattle.dcv_cli.proofs.laws.one_outcome.Goals as goal

pub returns : goal.returns
returns c =
    one_outcome c.one_tree.ensures.text c.one_fault.ensures c.one_verdict.ensures c.one_step_is_over.ensures.one c.one_step_is_over.ensures.within c.one_list_of_counts.ensures c.one_automaton.ensures
    c.one_observer.ensures.node c.one_observer.ensures.unit c.one_observer.ensures.tables c.one_file.ensures c.one_answer.ensures c.one_answer-2.ensures
    (record {
      one_node = c.texts_spell_nodes.ensures.one;
      one_node_fault = c.texts_are_nodes_or_at_fault.ensures.one;
      no_node_fault = c.texts_are_nodes_or_at_fault.ensures.none;
      one_unit = c.texts_spell_units.ensures.one;
      one_unit_fault = c.texts_are_units_or_at_fault.ensures.one;
      no_unit_fault = c.texts_are_units_or_at_fault.ensures.none;
      one_tables = c.texts_are_units_or_at_fault-2.ensures.unit;
      one_tables_fault = c.texts_are_units_or_at_fault-2.ensures.one;
      no_tables_fault = c.texts_are_units_or_at_fault-2.ensures.none;
    })
    c.traces_have_one_verdict.ensures.one c.letters_have_one_text_of_answers.ensures.one c.one_summary.ensures c.one_answer-3.ensures.least c.one_answer-3.ensures.stuck
    (one_synthesis_of c.one_canonical_table.ensures c.least_lines_are_one.ensures.one c.answers_are_one.ensures.strategy c.one_side_is_right.ensures)
