use Rattle.dcv_reader.proofs.Trees.{spells_one, tokens_spell_one}
use Rattle.dcv_reader.proofs.laws.one_tree.Goals as goal

pub returns-clause-text : goal.returns-clause-text
returns-clause-text c = spells_one

pub returns-clause-tokens : goal.returns-clause-tokens
returns-clause-tokens c = tokens_spell_one
