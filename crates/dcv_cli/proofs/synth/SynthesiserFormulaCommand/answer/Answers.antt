-- What is found is what is right for the file.
use Rattle.dcv_cli.proofs.Common.{◌≡◌, ◌∙◌, ℕ, List, Bool, length, refl, sym, ap, err_from_is_err_and, Name, can_be_divided, Divided, Undivided}
use Rattle.dcv_cli.proofs.Common.{status_of_synthesis, Formula, Memory, Outputs}
use Rattle.dcv_cli.specs.Synthesised.{synthesis_text}
use Rattle.dcv_cli.proofs.Outcomes.{answers_over}
use Rattle.dcv_cli.proofs.Syntheses.{answers_found, found_of_file}
use Rattle.dcv_cli.proofs.ThreeEnds.{answers_moved, answers_only, answers_reply}
use Rattle.dcv_cli.proofs.synth.SynthesiserFormulaCommand.answer.Goals as goal

-- how many variables the file has is what was looked at
tested : (inputs : ℕ) (given names : List Name) (result : Bool) → result ≡ can_be_divided inputs (length given) → given ≡ names → can_be_divided inputs (length names) ≡ result
tested inputs given names result is one = sym (is ∙ ap (λ (some : List Name). can_be_divided inputs (length some)) one)

pub returns-then-not-can_be_divided : goal.returns-then-not-can_be_divided
returns-then-not-can_be_divided g c text file is =
    let self = c.args.self.now in
    let not = tested self.inputs _ file.variables _ c.can_be_divided.ensures (c.names.ensures ∙ is.names) ∙ c.if-not-can_be_divided.true in
    rw c.of.ensures (answers_only _ (Formula Outputs) refl (Undivided not refl) _)

pub returns-in_err-built : goal.returns-in_err-built
returns-in_err-built g c text file is =
    let p = err_from_is_err_and c.from_residual.result c.from_residual.ensures.1 in
    let fits = tested c.args.self.now.inputs _ file.variables _ c.can_be_divided.ensures (c.names.ensures ∙ is.names) ∙ c.if-not-can_be_divided.false in
    rw (p.1, p.2) (answers_moved (λ outcome right. Divided fits right) (answers_over file c.in_err-built.field-0.0 (c.in_err-built.ensures.over text file is) _))

pub returns-in_err-found : goal.returns-in_err-found
returns-in_err-found g c text file is =
    let p = err_from_is_err_and c.from_residual-in_err-found.result c.from_residual-in_err-found.ensures.1 in
    rw (p.1, p.2) (answers_only _ Memory refl tt _)

pub synthesise-requires-clause-printable : goal.synthesise-requires-clause-printable
synthesise-requires-clause-printable g c =
    let given = c.requires.formula in rw c.names-2.ensures (c.in_ok-built.ensures.printable given.text given.file given.is c.requires.fits.within)

pub returns : goal.returns
returns g c text file is =
    let self = c.args.self.now in
    let found = c.in_ok-found.found in
    let fits = tested self.inputs _ c.names-2.result.now _ c.can_be_divided.ensures (c.names.ensures ∙ sym c.names-2.ensures) ∙ c.if-not-can_be_divided.false in
    answers_reply _ _ _ (status_of_synthesis found) (synthesis_text found)
    (found_of_file self.inputs self.limits file c.names-2.result.now c.in_ok-built.built found (c.names-2.ensures ∙ is.names) (c.in_ok-built.ensures.built text file is) fits c.in_ok-found.ensures)
    (answers_found found) _ c.status.ensures _ c.reply_with.ensures
