-- What is answered of both files is what is right for the second, after the first.
use Rattle.dcv_cli.proofs.Common.{err_from_is_err_and, letters_of, comparison_text, status_of, is_determined, status_of_least}
use Rattle.dcv_cli.proofs.Comparisons.{answers_least, on_true_each}
use Rattle.dcv_cli.proofs.ThreeEnds.{answers_refused, answers_reply}
use Rattle.dcv_cli.proofs.implies.ComparerFormulaCommand.answer.Goals as goal

pub returns-in_err-compared : goal.returns-in_err-compared
returns-in_err-compared g c text file is =
    let p = err_from_is_err_and c.from_residual.result c.from_residual.ensures.1 in
    let found = c.in_err-compared.field-0.0 in
    let given = c.in_err-compared.ensures in
    rw (p.1, p.2) (answers_refused _ found.refusal found.which given.own given.of_none
    (on_true_each (is_determined (status_of found.refusal)) _ _ (λ first_text first of. given.refused first_text text first file of is)) _)

pub returns : goal.returns
returns g c text file is =
    let least = letters_of c.in_ok-compared.compared.least in
    answers_reply _ _ _ (status_of_least least) (comparison_text least) (λ first_text first of. c.in_ok-compared.ensures.compared first_text text first file of is) (answers_least least) _
    c.of_least.ensures _ c.reply_with.ensures
