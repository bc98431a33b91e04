use Rattle.dcv_command.proofs.Common.{◌≡◌, [], drop, fold, false, app_of, with_rule, rule_of, shape_seen, argument_seen}
use Rattle.clap.specs.declared.builder.command.Command.TheViews.{out-Command as fields_of}
use Rattle.dcv_command.proofs.program.subcommand.Given as goal

-- with the arguments that are left it is the subcommand
abbrev pub invariant-loop-argument : goal.invariant-loop-argument
invariant-loop-argument l = record {
  left : fold (λ app argument. with_rule app (rule_of (argument_seen argument))) (app_of l.command) (drop l.argument-index l.entry.arguments.now)
      ≡ record { top = shape_seen l.entry; subs = [] };
  local : (fields_of l.command).has_globals ≡ false;
}
