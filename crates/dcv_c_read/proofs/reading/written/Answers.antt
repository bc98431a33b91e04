use Rattle.std.proofs.Common.{refl}
use Rattle.dcv_lexer.specs.Lexicon.{is_orderly}
use Rattle.dcv_c.specs.Classes.{lexicon}
use Rattle.dcv_c_read.proofs.reading.written.Goals as goal

pub returns-clause-orderly : goal.returns-clause-orderly
unfolding lexicon is_orderly
returns-clause-orderly c = refl
