use Rattle.dcv_sentence.proofs.Grammar.{predictive}
use Rattle.dcv_reader.proofs.translation.FileTranslationTranslation.grammar.Goals as goal

pub returns-clause-predictive : goal.returns-clause-predictive
returns-clause-predictive c = predictive
