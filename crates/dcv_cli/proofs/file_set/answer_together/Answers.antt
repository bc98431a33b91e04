use Rattle.dcv_cli.proofs.Common.{err_from_is_err_and, letters_of, status_of_least}
use Rattle.dcv_cli.specs.FileSet.{set_outcome}
use Rattle.dcv_cli.proofs.Comparisons.{answers_least}
use Rattle.dcv_cli.proofs.ThreeEnds.{answers_only, answers_reply}
use Rattle.dcv_cli.proofs.file_set.answer_together.Goals as goal

pub returns-in_err-decided : goal.returns-in_err-decided
returns-in_err-decided g c =
    let p = err_from_is_err_and c.from_residual.result c.from_residual.ensures.1 in
    let over = c.in_err-decided.ensures.over in
    rw (p.1, p.2) (answers_only _ c.in_err-decided.field-0.0 over.own over.explained _)

pub returns : goal.returns
returns g c =
    let found = c.in_ok-decided.decided in
    let least = letters_of found.stuck in
    let outcome = set_outcome c.in_ok-decided.decided.joint.now (letters_of c.in_ok-decided.decided.example) (letters_of c.in_ok-decided.decided.stuck) in
    answers_reply _ _ _ (status_of_least least) outcome.out c.in_ok-decided.ensures.decided (answers_least least) _ c.of_least.ensures _ c.reply_with.ensures
