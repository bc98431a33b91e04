use Rattle.std.proofs.Common.{refl}
use Rattle.dcv_lexer.specs.Lexicon.{is_orderly}
use Rattle.dcv_tokens.proofs.classes.formulas.Goals as goal

pub returns-clause-orderly : goal.returns-clause-orderly
unfolding is_orderly
returns-clause-orderly c = refl
