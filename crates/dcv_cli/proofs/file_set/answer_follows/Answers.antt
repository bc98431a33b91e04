use Rattle.dcv_cli.proofs.Common.{err_from_is_err_and, letters_of, status_of_least}
use Rattle.dcv_cli.specs.FileSet.{following_outcome}
use Rattle.dcv_cli.proofs.Comparisons.{answers_least}
use Rattle.dcv_cli.proofs.ThreeEnds.{answers_only, answers_reply}
use Rattle.dcv_cli.proofs.file_set.answer_follows.Goals as goal

pub returns-in_err-following : goal.returns-in_err-following
returns-in_err-following g c =
    let p = err_from_is_err_and c.from_residual.result c.from_residual.ensures.1 in
    let over = c.in_err-following.ensures.over in
    rw (p.1, p.2) (answers_only _ c.in_err-following.field-0.0 over.own over.explained _)

pub returns : goal.returns
returns g c =
    let found = c.in_ok-following.following in
    let least = letters_of found.least in
    let outcome = following_outcome c.in_ok-following.following.joint.now (letters_of c.in_ok-following.following.least) in
    answers_reply _ _ _ (status_of_least least) outcome.out c.in_ok-following.ensures.decided (answers_least least) _ c.of_least.ensures _ c.reply_with.ensures
