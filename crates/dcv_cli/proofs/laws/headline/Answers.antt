use Rattle.dcv_cli.proofs.Headline.{headline, headline_is_complete, tables_headline, tables_headline_is_complete}
use Rattle.dcv_cli.proofs.laws.headline.Goals as goal

pub returns-clause-answered : goal.returns-clause-answered
returns-clause-answered c = headline c.automaton_has_fewest_states.ensures

pub returns-clause-complete : goal.returns-clause-complete
returns-clause-complete c = headline_is_complete c.automaton_has_fewest_states.ensures c.one_tree.ensures.text c.one_step_is_over.ensures.within

pub returns-clause-tables : goal.returns-clause-tables
returns-clause-tables c = tables_headline

pub returns-clause-tables_complete : goal.returns-clause-tables_complete
returns-clause-tables_complete c = tables_headline_is_complete c.one_tree.ensures.text c.one_step_is_over.ensures.within
