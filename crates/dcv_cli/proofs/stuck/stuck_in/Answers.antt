-- What is found in the automaton is said of the file.
use Rattle.std.proofs.Common.{subst}
use Rattle.dcv_dfa.specs.Raw.{RawValue, raw_accepts}
use Rattle.dcv_print.specs.Verdict.{letters_of}
use Rattle.dcv_stuck.specs.Stuck.{IsLeastStuckOf}
use Rattle.dcv_cli.proofs.StuckReports.{built_reports}
use Rattle.dcv_cli.proofs.stuck.stuck_in.Goals as goal

pub returns-clause-found : goal.returns-clause-found
returns-clause-found c text file is =
    let built = c.in_ok-built.built in
    let least = letters_of c.in_ok-least.least in
    built_reports c.never_stuck_goes_on.ensures c.least_stuck_is_of_sets.ensures.same
    file c.args.limits built least c.raw.ensures.auto (c.in_ok-built.ensures.built text file is)
    (subst (λ (raw : RawValue). IsLeastStuckOf raw.arena.slots (raw_accepts raw) least) c.raw.ensures.raw c.in_ok-least.ensures.least)
