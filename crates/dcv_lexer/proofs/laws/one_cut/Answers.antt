use Rattle.dcv_lexer.proofs.Cuts.{cut_exists, cut_is_unique}
use Rattle.dcv_lexer.proofs.laws.one_cut.Goals as goal

pub returns-clause-exists : goal.returns-clause-exists
returns-clause-exists c = cut_exists

pub returns-clause-unique : goal.returns-clause-unique
returns-clause-unique c = cut_is_unique
