-- A text has a first fault or is what it is read as, and what is asked of it is decided: each report is said of an automaton that is made, and
-- one side wins each game.
use Rattle.dcv_quotient.proofs.WordOrder.{word_laws}
use Rattle.dcv_cli.proofs.SomeControllers.{GameLaws}
use Rattle.dcv_cli.proofs.SomeKinds.{some_budgeted}
use Rattle.dcv_cli.proofs.SomeOutcome.{SomeReport, SomeSet, SomeSynthesis, some_outcome}
use Rattle.dcv_cli.proofs.SomeSet.{some_of_set}
use Rattle.dcv_cli.proofs.SomeSynthesised.{some_synthesised}
use Rattle.dcv_cli.proofs.VariableNames.{are_names}
use Rattle.dcv_cli.proofs.laws.some_outcome.Goals as goal

pub returns : goal.returns
returns c =
    let game : GameLaws = record {
      not_beaten = c.some_player_wins.ensures.unbeaten;
      win = c.some_player_wins.ensures.win;
      held = c.some_player_wins.ensures.held;
      controls = c.controls_win.ensures;
      strategies = c.strategies_beat.ensures;
      wins_over = c.winners_of_same_behaviours.ensures.wins;
      beats_over = c.winners_of_same_behaviours.ensures.beats;
      units_keep = c.units_answer.ensures.rules;
      units_win = c.units_answer.ensures.wins;
      lines_have = c.least_lines_are_one.ensures.have;
      read_back = c.texts_spell_units.ensures.back;
    } in
    let accept = c.machines_accept_steps.ensures in
    let outside_is = c.complement_is_canonical.ensures in
    let models_are = c.core_means_text.ensures.whole in
    let short = c.names_are_short.ensures in
    let reports : SomeReport =
    some_budgeted word_laws accept outside_is models_are short c.measures_bound_core.ensures.steps
    (record {
      printed = c.printed_is_automaton.ensures;
      node = c.printed_observers_observe.ensures.node;
      unit = c.printed_observers_observe.ensures.unit;
      tables = c.printed_observers_observe.ensures.tables;
      move = c.automaton_of_same_behaviours.ensures;
      move_node = c.one_observer.ensures.node_of_same;
      move_unit = c.one_observer.ensures.unit_of_same;
      move_tables = c.one_observer.ensures.tables_of_same;
    }) in
    let syntheses : SomeSynthesis = λ inputs limits range text file formula.
    some_synthesised word_laws accept models_are game inputs limits file range.within.few_states range.within.few_nodes (are_names short text file formula) formula.has_core in
    let sets : SomeSet =
    some_of_set word_laws accept c.moved_means_restricted.ensures.file c.names_are_joint.ensures.each c.some_answer.ensures.possible c.some_answer.ensures.stuck c.some_answer.ensures.following in
    some_outcome c.some_reading.ensures reports syntheses sets word_laws accept outside_is models_are c.none_is_inclusion.ensures.none
    c.minimal_shows_fewest_states.ensures.fewest c.minimal_shows_fewest_states.ensures.reached
    c.taken_words_ask.ensures c.texts_are_nodes_or_at_fault.ensures.some c.texts_are_units_or_at_fault.ensures.some
    c.texts_are_units_or_at_fault-2.ensures.some c.read_units_keep_the_rules.ensures
    c.traces_have_one_verdict.ensures.some c.letters_have_one_text_of_answers.ensures.some c.never_stuck_goes_on.ensures
