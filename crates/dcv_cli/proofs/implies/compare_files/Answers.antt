-- What is right for the second file, after the first, is right for both.
use Rattle.dcv_cli.proofs.Common.{refl, [], ◌∷◌, ◌+◌, most_bytes, IsCompared, OnText, OnHeld, First, Second}
use Rattle.dcv_cli.specs.Comparison.{OfFirst}
use Rattle.dcv_cli.proofs.Comparisons.{fulfils_both, leaves_both}
use Rattle.dcv_cli.proofs.Outcomes.{explains_file}
use Rattle.dcv_cli.proofs.ThreeEnds.{for_any, performs_untaken}
use Rattle.dcv_cli.proofs.TwoFiles.{performs_later}
use Rattle.dcv_cli.proofs.implies.compare_files.Goals as goal

pub returns-in-Ok : goal.returns-in-Ok
returns-in-Ok g c =
    let given = c.in-Ok.ensures.read in
    let taken = c.in-Ok.ensures.taken in
    let (file, is) = given.is in
    performs_later taken _
    (λ outcome right. fulfils_both _ _ c.args.first.now c.args.second.now given.text c.args.limits file outcome taken.held given.there is.spelled _
    (λ other outcome each. each given.text file is) right)
    c.over_formula.result (c.args.second.now ∷ []) (most_bytes + 2) _
    (λ bytes left. leaves_both c.args.first.now c.args.second.now given.text c.args.limits file _ _ _ bytes taken.asked taken.held given.there is.spelled left)
    c.over_formula.ensures

pub returns-in-Err : goal.returns-in-Err
returns-in-Err g c =
    let taken = c.in-Err.ensures.taken in
    rw c.in_file.ensures (performs_untaken _ _ (c.args.second.now ∷ []) c.in-Err.refusal (most_bytes + 2) taken _ First
    (explains_file _ _ First (λ held one. OnHeld (held 1) c.args.second.now (λ text. OnText text Second (IsCompared c.args.limits one))) c.in-Err.refusal c.in-Err.ensures.refused)
    (for_any _ _ (λ held. OfFirst taken.asked taken.bytes refl)))
