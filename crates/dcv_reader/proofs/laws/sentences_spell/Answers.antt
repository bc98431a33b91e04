use Rattle.dcv_reader.proofs.Trees.{sentences_spell}
use Rattle.dcv_reader.proofs.laws.sentences_spell.Goals as goal

pub returns : goal.returns
returns c = sentences_spell
