use Rattle.dcv_c.proofs.LeftOver.{no_left_over_is_read}
use Rattle.dcv_c.proofs.laws.nothing_left_over_is_read.Goals as goal

pub returns : goal.returns
returns c = no_left_over_is_read
