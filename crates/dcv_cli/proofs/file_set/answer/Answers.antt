-- What is answered of the automata is right for the files.
use Rattle.dcv_cli.proofs.Common.{arith, err_from_is_err_and, subst, sym}
use Rattle.dcv_command.specs.declared.words.SetQuestion.TheVariants.{Follows, Together}
use Rattle.dcv_cli.specs.FileSet.{IsOfSet}
use Rattle.dcv_cli.specs.Outside.{stream}
use Rattle.dcv_cli.specs.Performed.{Answers}
use Rattle.dcv_cli.proofs.JoinedSets.{answers_set, is_whole, read_count, unjoined}
use Rattle.dcv_cli.proofs.ThreeEnds.{answers_moved, answers_refused}
use Rattle.dcv_cli.proofs.file_set.answer.Goals as goal

pub returns-in_err-set : goal.returns-in_err-set
returns-in_err-set g c files are =
    let p = err_from_is_err_and c.from_residual.result c.from_residual.ensures.1 in
    let found = c.in_err-set.field-0.0 in
    let refusal = unjoined c.args.question.asked c.args.question.limits c.args.question.tuples files found (c.in_err-set.ensures.refused files are) in
    rw (p.1, p.2) (answers_refused _ found.refusal found.which refusal.own refusal.of_none refusal.explained _)

pub answer_together-requires-clause-whole : goal.answer_together-requires-clause-whole
answer_together-requires-clause-whole g c =
    let (files, are) = c.requires.read in
    let some = c.requires.some in
    let count = read_count files c.args.formulas.now are in
    is_whole c.args.question.limits files c.in_ok-set.set (omega (arith, some, count)) (c.in_ok-set.ensures.joined files are)

pub returns-in-Together : goal.returns-in-Together
returns-in-Together g c files are =
    let same = c.answers_are_of_sets.ensures in
    let question = c.args.question in
    subst (λ asked. Answers (IsOfSet asked question.limits question.tuples files) c.answer_together.result (stream g.O.Sink c.args.out.now) (stream g.O.Sink c.answer_together.new.out)) (sym c.in-Together.is)
    (answers_moved (answers_set same.possible same.stuck same.following Together question.limits question.tuples files c.in_ok-set.set (c.in_ok-set.ensures.joined files are))
    c.answer_together.ensures)

pub answer_follows-requires-clause-whole : goal.answer_follows-requires-clause-whole
answer_follows-requires-clause-whole g c =
    let (files, are) = c.requires.read in
    let some = c.requires.some in
    let count = read_count files c.args.formulas.now are in
    is_whole c.args.question.limits files c.in_ok-set.set (omega (arith, some, count)) (c.in_ok-set.ensures.joined files are)

pub returns : goal.returns
returns g c files are =
    let same = c.answers_are_of_sets.ensures in
    let question = c.args.question in
    subst (λ asked. Answers (IsOfSet asked question.limits question.tuples files) c.answer_follows.result (stream g.O.Sink c.args.out.now) (stream g.O.Sink c.answer_follows.new.out)) (sym c.in-Follows.is)
    (answers_moved (answers_set same.possible same.stuck same.following Follows question.limits question.tuples files c.in_ok-set.set (c.in_ok-set.ensures.joined files are))
    c.answer_follows.ensures)
