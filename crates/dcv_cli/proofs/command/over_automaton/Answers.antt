-- What is right for the text is right for the file of the name.
use Rattle.dcv_cli.proofs.Common.{List, ℕ, [], refl, subst, OnTrue, err_from_is_err_and, IsAutomatonText, IsRefusedAutomaton, OnAutomaton}
use Rattle.dcv_cli.proofs.Common.{status_of, is_determined}
use Rattle.dcv_cli.specs.AutomatonFile.{Read, TooLong}
use Rattle.dcv_cli.proofs.Certificates.{explains_text}
use Rattle.dcv_cli.proofs.ThreeEnds.{answers_only, for_any, fulfils_first, on_true_weaker, performs_only}
use Rattle.dcv_cli.proofs.TwoFiles.{performs_answered}
use Rattle.dcv_cli.proofs.command.over_automaton.Goals as goal

pub returns-in_err-text : goal.returns-in_err-text
returns-in_err-text g c =
    let p = err_from_is_err_and c.from_residual.result c.from_residual.ensures.1 in
    let refusal = c.in_err-text.field-0.0 in
    rw (p.1, p.2) (performs_only _ _ [] refusal 0 c.in_err-text.ensures.taken _
    (explains_text _ _ (g.C.AutomatonCommand.right c.args.command.now) refusal
    (on_true_weaker (is_determined (status_of refusal)) (λ some. record { text = some.1.text; there = some.1.there; is = TooLong some.1.is some.0 }) c.in_err-text.ensures.refused))
    (for_any _ _ (λ held. record { asked = c.in_err-text.ensures.taken.asked; read = c.in_err-text.ensures.taken.bytes; none = refl })))

pub returns-in_err-file : goal.returns-in_err-file
returns-in_err-file g c =
    let p = err_from_is_err_and c.from_residual-in_err-file.result c.from_residual-in_err-file.ensures.1 in
    let refusal = c.in_err-file.field-0.0 in
    let refused = subst (λ (text : List ℕ). OnTrue (is_determined (status_of refusal)) (IsRefusedAutomaton text refusal)) c.deref-bytes.ensures.value c.in_err-file.ensures.refused in
    rw (p.1, p.2) (performs_answered c.in_ok-text.ensures.taken _ (λ outcome right. right) _ _
    (answers_only _ refusal c.in_err-file.ensures.own
    (explains_text _ _ (g.C.AutomatonCommand.right c.args.command.now) refusal
    (on_true_weaker (is_determined (status_of refusal)) (λ some. record { text = c.in_ok-text.text.items; there = c.in_ok-text.ensures.ok; is = some }) refused)) _))

pub returns : goal.returns
returns g c =
    let file = c.in_ok-file.file in
    let spelled = subst (λ (text : List ℕ). IsAutomatonText text file) c.deref-bytes.ensures.value c.in_ok-file.ensures.spelled in
    performs_answered c.in_ok-text.ensures.taken _
    (λ outcome right. fulfils_first _ _ c.in_ok-text.text.items (λ held text. OnAutomaton text (g.C.AutomatonCommand.right c.args.command.now)) outcome
    c.in_ok-text.ensures.ok (λ held. Read file spelled right))
    _ _ c.answer.ensures
