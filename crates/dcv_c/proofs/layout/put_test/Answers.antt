use Rattle.std.proofs.Common.{ap}
use Rattle.dcv_io.proofs.Putting.{puts_both, puts_same}
use Rattle.dcv_c.specs.Tree.{Equals}
use Rattle.dcv_c.specs.Layout.{text_in, condition_layout}
use Rattle.dcv_c.proofs.layout.put_test.Goals as goal

pub returns : goal.returns
returns g c =
    puts_both _ _ _ _ _ c.put.ensures (puts_same _ _ _ _ c.put_equal.ensures (ap (λ name. text_in (condition_layout (Equals name c.args.test.number))) c.at.ensures))
