-- The grammar passes the test of `dcv_grammar`.
use Rattle.std.proofs.Common.{refl}
use Rattle.dcv_grammar.specs.Predictive.{IsPredictive}
use Rattle.dcv_c.specs.Language.{language}

pub predictive : IsPredictive language
unfolding language IsPredictive
predictive = refl
