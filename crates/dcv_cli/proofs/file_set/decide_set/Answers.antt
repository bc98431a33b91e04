-- A run over a set keeps to what all commands do.
use Rattle.dcv_cli.proofs.Common.{arith, err_from_is_err_and, length-map, map, List, ℕ, subst, sym}
use Rattle.std.specs.Borrow.{Bor}
use Rattle.dcv_cli.specs.FileSet.{IsOfSet}
use Rattle.dcv_cli.specs.Joined.{AreRead}
use Rattle.dcv_cli.proofs.JoinedSets.{reads_only}
use Rattle.dcv_cli.proofs.TakenFiles.{performs_all, takes_count}
use Rattle.dcv_cli.proofs.file_set.decide_set.Goals as goal

pub returns-in_err-formulas : goal.returns-in_err-formulas
returns-in_err-formulas g c =
    let p = err_from_is_err_and c.from_residual.result c.from_residual.ensures.1 in
    rw (p.1, p.2) (c.in_err-formulas.ensures.stops c.args.question.asked c.args.question.limits c.args.question.tuples _)

pub answer-requires-clause-some : goal.answer-requires-clause-some
answer-requires-clause-some g c =
    let all = c.in_ok-formulas.ensures.taken in
    let some = c.requires.some in
    let names = map (λ (name : Bor (List ℕ)). name.now) c.args.names.now in
    let count = takes_count names c.in_ok-formulas.formulas.items _ _ all in
    let texts = length-map c.args.names.now (λ (name : Bor (List ℕ)). name.now) in
    omega (arith, some, count, texts)

pub answer-requires-clause-read : goal.answer-requires-clause-read
answer-requires-clause-read g c =
    let all = c.in_ok-formulas.ensures.taken in
    (all.files, subst (AreRead all.files) (sym c.deref.ensures.value) (reads_only all.texts all.files c.in_ok-formulas.formulas.items all.are))

pub returns : goal.returns
returns g c =
    let all = c.in_ok-formulas.ensures.taken in
    performs_all all (IsOfSet c.args.question.asked c.args.question.limits c.args.question.tuples)
    (c.answer.ensures all.files (subst (AreRead all.files) (sym c.deref.ensures.value) (reads_only all.texts all.files c.in_ok-formulas.formulas.items all.are)))
