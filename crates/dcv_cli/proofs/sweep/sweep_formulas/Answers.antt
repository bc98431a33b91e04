-- No file is asked for, so no count of theirs rises.
use Rattle.dcv_cli.proofs.Common.{[], refl, summary_text, Done, IsSwept}
use Rattle.dcv_cli.proofs.ThreeEnds.{answers_reply, for_any, performs_none}
use Rattle.dcv_cli.proofs.sweep.sweep_formulas.Goals as goal

pub returns : goal.returns
returns g c files =
    let summary = c.in_ok-summary.summary in
    let right = for_any files.told (λ held. IsSwept c.args.seed c.args.count (record { status = Done; out = summary_text summary; err = [] }))
    (λ held. record { summary = summary; is = c.in_ok-summary.ensures; status = refl; says = refl; no_message = refl }) in
    performs_none [] 0 files (answers_reply _ _ _ Done (summary_text summary) right refl Done refl _ c.reply_with.ensures)
