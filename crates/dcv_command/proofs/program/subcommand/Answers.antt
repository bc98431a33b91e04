-- Each argument is one rule more.
use Rattle.dcv_command.proofs.Common.{ap, ◌∙◌, ◌||◌, fold, App, app_of, with_rule, rule_of, argument_seen}
use Rattle.std.proofs.Math.Bool.{or-false}
use Rattle.clap.specs.Words.{new_app}
use Rattle.clap.specs.Simple.{app_of_fields}
use Rattle.clap.specs.declared.builder.command.Command.TheViews.{out-Command as fields_of}
use Rattle.dcv_command.proofs.Built.{one_more, rules_added}
use Rattle.dcv_command.proofs.program.subcommand.Goals as goal

pub loop-argument-init : goal.loop-argument-init
loop-argument-init c =
    let arguments = c.args.entry.now.arguments.now in
    record {
      left = ap (λ (app : App). fold (λ app argument. with_rule app (rule_of (argument_seen argument))) app arguments)
          (ap app_of_fields c.about-command.ensures ∙ c.new.ensures.app) ∙ rules_added rule_of argument_seen arguments (new_app c.args.entry.now.name.now);
      local = ap (λ fields. fields.has_globals) c.about-command.ensures ∙ c.new.ensures.local;
    }

pub loop-argument-preserved : goal.loop-argument-preserved
loop-argument-preserved c =
    let old = c.loop-argument.command in
    let app = c.in_ok-command.ensures.shape c.arg_of.ensures.local ∙ ap (with_rule (app_of old)) c.arg_of.ensures.rule in
    record {
      left = one_more (λ app argument. with_rule app (rule_of (argument_seen argument))) c.args.entry.now.arguments.now c.loop-argument.argument-index _
          (app_of old) _ _ c.loop-argument-test.true app c.loop-argument.invariant.left;
      local = c.in_ok-command.ensures.globals ∙ ap (λ global. (fields_of old).has_globals || global) c.arg_of.ensures.local
          ∙ or-false (fields_of old).has_globals
          ∙ c.loop-argument.invariant.local;
    }
