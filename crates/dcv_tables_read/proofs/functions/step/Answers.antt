use Rattle.std.proofs.Common.{ℕ, List, ◌++◌, ◌∙◌, ap, subst}
use Rattle.std.specs.Borrow.{Bor}
use Rattle.dcv_automaton_lines.specs.Pieces.{Exactly, IsStuckIn}
use Rattle.dcv_tables_read.specs.Parts.{body_text}
use Rattle.dcv_tables_read.specs.Values.{words_in}
use Rattle.dcv_tables_read.proofs.Chain.{stops, stop_passes}
use Rattle.dcv_tables_read.proofs.StepTexts.{in_reset, in_parameters, in_body, step_read}
use Rattle.dcv_tables_read.proofs.functions.step.Goals as goal

pub returns-in_err-begun-clause-fault : goal.returns-in_err-begun-clause-fault
returns-in_err-begun-clause-fault c =
    stops _ _ _ c.in_err-begun.field-0.0 c.from_residual.ensures.1 (in_reset c.args.integer.now c.args.some c.args.count c.in_err-begun.ensures.fault)

pub returns-in_err-names-clause-fault : goal.returns-in_err-names-clause-fault
returns-in_err-names-clause-fault c =
    stop_passes _ _ _ _ _ c.in_err-names.field-0.0 c.from_residual-in_err-names.ensures.1
    (λ left stuck. in_parameters c.args.integer.now c.args.some c.args.count c.in_ok-begun.ensures.ok stuck) c.in_err-names.ensures.fault

pub returns-in_err-rest-clause-fault : goal.returns-in_err-rest-clause-fault
returns-in_err-rest-clause-fault c =
    stops _ _ _ c.in_err-rest.field-0.0 c.from_residual-in_err-rest.ensures.1
    (in_body c.args.integer.now c.args.some c.args.count c.in_ok-begun.ensures.ok _ c.in_ok-names.ensures.words c.in_ok-names.ensures.spelled
    (subst (λ (names : List (Bor (List ℕ))). IsStuckIn (Exactly (body_text c.args.integer.now c.args.some (words_in names))) c.in_ok-names.inside.now c.in_err-rest.field-0.0.left.now)
    c.deref.ensures.value c.in_err-rest.ensures.fault))

pub returns-clause-spelled : goal.returns-clause-spelled
returns-clause-spelled c =
    step_read c.args.integer.now c.args.some c.args.count _ _ _ _ c.in_ok-begun.ensures.ok _ c.in_ok-names.ensures.spelled
    (c.in_ok-rest.ensures.ok ∙ ap (λ (names : List (Bor (List ℕ))). body_text c.args.integer.now c.args.some (words_in names) ++ c.in_ok-rest.rest.now) c.deref.ensures.value)
