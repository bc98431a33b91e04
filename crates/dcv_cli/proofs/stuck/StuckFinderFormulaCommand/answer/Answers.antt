-- What is found is what is right for the file.
use Rattle.std.proofs.lemmas.Result.{err_from_is_err_and}
use Rattle.dcv_print.specs.Stuck.{stuck_text}
use Rattle.dcv_print.specs.Verdict.{letters_of}
use Rattle.dcv_cli.specs.Status.{status_of_least}
use Rattle.dcv_cli.proofs.Comparisons.{answers_least}
use Rattle.dcv_cli.proofs.Outcomes.{answers_over}
use Rattle.dcv_cli.proofs.ThreeEnds.{answers_reply}
use Rattle.dcv_cli.proofs.stuck.StuckFinderFormulaCommand.answer.Goals as goal

pub returns-in_err-found : goal.returns-in_err-found
returns-in_err-found g c text file is =
    let p = err_from_is_err_and c.from_residual.result c.from_residual.ensures.1 in
    rw (p.1, p.2) (answers_over file c.in_err-found.field-0.0 (c.in_err-found.ensures.over text file is) _)

pub returns : goal.returns
returns g c text file is =
    let least = letters_of c.in_ok-found.found.least in
    answers_reply _ _ _ (status_of_least least) (stuck_text least) (c.in_ok-found.ensures.found text file is) (answers_least least) _ c.of_least.ensures _
    c.reply_with.ensures
