use Rattle.dcv_command.proofs.Common.{◌≡◌, drop, fold, app_of, program, with_subcommand, shape_seen}
use Rattle.dcv_command.proofs.program.program.Given as goal

-- with the subcommands that are left it is the program
abbrev pub invariant-loop-entry : goal.invariant-loop-entry
invariant-loop-entry l = fold (λ app entry. with_subcommand app (shape_seen entry)) (app_of l.command) (drop l.entry-index l.entry-items) ≡ program
