-- What is right for the formula file is right for the file of the name.
use Rattle.dcv_cli.proofs.Common.{refl, []}
use Rattle.dcv_cli.proofs.Outcomes.{explains_file, fulfils_file}
use Rattle.dcv_cli.proofs.ThreeEnds.{for_any, performs_untaken}
use Rattle.dcv_cli.proofs.TwoFiles.{performs_answered}
use Rattle.dcv_cli.proofs.command.over_formula.Goals as goal

pub returns-in-Ok : goal.returns-in-Ok
returns-in-Ok g c =
    let given = c.in-Ok.ensures.read in
    let (file, is) = given.is in
    performs_answered c.in-Ok.ensures.taken _
    (λ outcome right. fulfils_file _ _ _ (λ held. g.C.FormulaCommand.right c.args.command.now) given.text file outcome given.there is.spelled (λ held. right))
    c.answer.result _ (c.answer.ensures given.text file is)

pub returns-in-Err : goal.returns-in-Err
returns-in-Err g c =
    rw c.in_file.ensures (performs_untaken _ _ [] c.in-Err.refusal 0 c.in-Err.ensures.taken _ c.args.which
    (explains_file _ _ c.args.which (λ held. g.C.FormulaCommand.right c.args.command.now) c.in-Err.refusal c.in-Err.ensures.refused)
    (for_any _ _ (λ held. record { asked = c.in-Err.ensures.taken.asked; read = c.in-Err.ensures.taken.bytes; none = refl })))
