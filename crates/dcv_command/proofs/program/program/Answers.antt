-- Each command of the table is one subcommand more.
use Rattle.dcv_command.proofs.Common.{ap, ◌∙◌, fold, App, app_of, with_subcommand, shape_seen}
use Rattle.dcv_command.specs.Program.{bare_app}
use Rattle.dcv_command.proofs.Built.{one_more, shapes_added}
use Rattle.dcv_command.proofs.program.program.Goals as goal

pub loop-entry-init : goal.loop-entry-init
loop-entry-init c =
    ap (λ (app : App). fold (λ app entry. with_subcommand app (shape_seen entry)) app c.commands-entry-items.result.now) c.in_ok-command.ensures
    ∙ shapes_added shape_seen c.commands-entry-items.result.now bare_app ∙ ap (fold with_subcommand bare_app) c.commands-entry-items.ensures

pub loop-entry-preserved : goal.loop-entry-preserved
loop-entry-preserved c =
    let app = c.in_ok-command-2.ensures.shape c.in_ok-subcommand.ensures.local
    ∙ ap (λ (app : App). with_subcommand (app_of c.loop-entry.command) app.top) c.in_ok-subcommand.ensures.app in
    one_more (λ app entry. with_subcommand app (shape_seen entry)) c.commands-entry-items.result.now c.loop-entry.entry-index _
    (app_of c.loop-entry.command) _ _
    c.loop-entry-test.true app c.loop-entry.invariant
