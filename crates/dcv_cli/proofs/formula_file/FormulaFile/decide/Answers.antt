-- The verdict of the core's words is that of the behaviours that model the file.
use Rattle.dcv_cli.proofs.Common.{length, models, core_of_file, steps_of, IsWithinBudget, NamesFirstOver}
use Rattle.std.proofs.lemmas.Result.{IfErr-at_err}
use Rattle.dcv_cli.proofs.Budgets.{at_some_step, of_core, of_file, verdict_of_file}
use Rattle.dcv_cli.proofs.formula_file.FormulaFile.decide.Goals as goal

pub returns-clause-decided : goal.returns-clause-decided
returns-clause-decided c text file is =
    let built = c.in-Ok.built in
    record {
      within = of_file is (λ k tree. IsWithinBudget (steps_of k tree) c.args.limits) (c.in-Ok.ensures.within (core_of_file file) (of_core is));
      verdict = c.in_ok-verdict_of.ensures (length file.variables) (models file)
          (verdict_of_file is built.raw built.complemented c.core_means_text.ensures.whole (c.in-Ok.ensures.is (core_of_file file) (of_core is)));
    }

pub refusal_of-requires : goal.refusal_of-requires
refusal_of-requires c =
    at_some_step c.args.self.now.core c.args.limits c.requires c.in-Err.fault (λ tree is. IfErr-at_err _ c.in-Err.is (c.build_for_verdict.ensures.over tree is))

pub returns-in-Err-clause-over : goal.returns-in-Err-clause-over
returns-in-Err-clause-over c text file is =
    let tree = core_of_file file in
    of_file is (λ k tree. NamesFirstOver (steps_of k tree) c.args.limits c.refusal_of.result)
    (c.refusal_of.ensures tree c.args.limits (of_core is)
    (IfErr-at_err _ c.in-Err.is (c.build_for_verdict.ensures.over tree (of_core is))))
