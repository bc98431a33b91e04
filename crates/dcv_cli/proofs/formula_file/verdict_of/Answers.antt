-- The verdict of all other words has the two words exchanged.
use Rattle.dcv_cli.proofs.Verdicts.{verdict_inside, verdict_outside}
use Rattle.dcv_cli.proofs.formula_file.verdict_of.Goals as goal

pub returns-then-built : goal.returns-then-built
returns-then-built c k L of =
    verdict_outside c.verdict_of_same_verdict.ensures k L c.args.built.now.raw c.args.built.now.complemented c.if-built.true of _ c.in_ok-verdict.ensures

pub returns : goal.returns
returns c k L of = verdict_inside c.verdict_of_same_verdict.ensures k L c.args.built.now.raw c.args.built.now.complemented c.if-built.false of _ c.in_ok-verdict.ensures
