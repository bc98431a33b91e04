use Rattle.std.proofs.Common.{◌++◌, codes}
use Rattle.std.specs.Fmt.{decimal}
use Rattle.dcv_io.proofs.Putting.{puts_same, puts_both}
use Rattle.dcv_language.specs.VerdictText.{line}
use Rattle.dcv_sweep.proofs.summary.Summary.put.Goals as goal

pub returns : goal.returns
returns g c =
    let two = puts_both _ _ _ _ _ c.put_line.ensures c.put_line-2.ensures in
    let three = puts_both _ _ _ _ _ two c.put_line-3.ensures in
    let four = puts_both _ _ _ _ _ three c.put_line-4.ensures in
    puts_same _ _ _ _ (puts_both _ _ _ _ _ four c.put_line-5.ensures)
    (λ i. line (codes "formulas " ++ decimal (c.from.ensures i)) ++ line (codes "valid " ++ decimal (c.from-2.ensures i))
    ++ line (codes "satisfiable " ++ decimal (c.from-3.ensures i)) ++ line (codes "over " ++ decimal (c.from-4.ensures i))
    ++ line (codes "states " ++ decimal c.args.self.now.states))
