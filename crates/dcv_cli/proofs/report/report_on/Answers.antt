-- What is made of the automaton is what the request asks for, of each set whose automaton it is.
use Rattle.dcv_cli.proofs.Common.{List, subst, ◌∙◌, IfOk, length-map, Name, Count, texts_of, SaysOf as Says}
use Rattle.dcv_cli.proofs.Automata.{report_answers}
use Rattle.dcv_cli.proofs.report.report_on.Goals as goal

pub returns : goal.returns
returns c k L of =
    let built = c.args.built.now in
    let names = c.args.names.now in
    report_answers (record {
      printed = c.printed_is_automaton.ensures;
      node = c.printed_observers_observe.ensures.node;
      unit = c.printed_observers_observe.ensures.unit;
      tables = c.printed_observers_observe.ensures.tables;
      move = c.automaton_of_same_behaviours.ensures;
      move_node = c.one_observer.ensures.node_of_same;
      move_unit = c.one_observer.ensures.unit_of_same;
      move_tables = c.one_observer.ensures.tables_of_same;
    }) c.verdict_of_same_behaviours.ensures
    c.tables_accept_the_same.ensures.accepts built.auto (texts_of names) built.counts.items
    (record {
      is_raw = c.states.ensures.raw;
      auto = c.states.ensures.auto;
      are_names = c.requires.are_names;
      slots = length-map names (λ (name : Name). name.text) ∙ c.requires.slots;
      states = c.requires.states;
      nodes = c.requires.nodes;
    })
    c.requires.counts k L of c.args.kind c.make.result c.make.ensures.verdict
    (subst (λ (counts : List Count). IfOk c.make.result (Says c.args.kind built.auto (texts_of names) counts)) c.deref.ensures.value c.make.ensures.says)
