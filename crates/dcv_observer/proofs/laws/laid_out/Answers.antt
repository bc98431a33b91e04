use Rattle.dcv_observer.proofs.LaidOut.{laid_out}
use Rattle.dcv_observer.proofs.laws.laid_out.Goals as goal

pub returns : goal.returns
returns c = laid_out
