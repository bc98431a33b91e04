use Rattle.dcv_cli.proofs.EqualMeanings.{equal_meanings}
use Rattle.dcv_cli.proofs.laws.equal_meanings.Goals as goal

pub returns : goal.returns
returns c =
    equal_meanings c.one_tree.ensures.text c.one_verdict.ensures c.verdict_of_same_behaviours.ensures c.one_automaton.ensures c.automaton_of_same_behaviours.ensures
    c.one_observer.ensures.node c.one_observer.ensures.unit c.one_observer.ensures.tables
    c.one_observer.ensures.node_of_same c.one_observer.ensures.unit_of_same c.one_observer.ensures.tables_of_same
