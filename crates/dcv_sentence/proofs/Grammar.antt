-- The grammar of the language passes the test.
use Rattle.std.proofs.Common.{refl}
use Rattle.dcv_grammar.specs.Predictive.{IsPredictive}
use Rattle.dcv_sentence.specs.Language.{file_rules, formula_rules, prop_rules, language}

pub predictive : IsPredictive language
unfolding language file_rules formula_rules prop_rules IsPredictive
predictive = refl
