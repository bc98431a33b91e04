-- What is said of a core is said of the file that it is of.
use Rattle.dcv_cli.proofs.Common.{core_of_file, steps_of, IsWithinBudget, AreCounts, NamesFirstOver, IsBuilt, PlainFile, List, ℕ, IsRead}
use Rattle.std.proofs.lemmas.Result.{IfErr-at_err}
use Rattle.dcv_cli.proofs.Budgets.{at_some_step, automaton_of_file, of_core, of_file, printable}
use Rattle.dcv_cli.proofs.formula_file.FormulaFile.build.Goals as goal
use Rattle.dcv_cli.proofs.formula_file.FormulaFile.build.Goals.{In-Ok}

module _ (c : In-Ok) (text : List ℕ) (file : PlainFile) (is : IsRead text file c.args.self.now) where
  built_is : IsBuilt file c.args.limits c.in-Ok.built
  built_is = record {
    within = of_file is (λ k tree. IsWithinBudget (steps_of k tree) c.args.limits) (c.in-Ok.ensures.builds.within (core_of_file file) (of_core is));
    automaton = automaton_of_file is c.in-Ok.built.auto c.core_means_text.ensures.whole c.canonical_for_same_behaviours.ensures (c.in-Ok.ensures.builds.is (core_of_file file) (of_core is));
    states = c.in-Ok.ensures.builds.few_states;
    nodes = c.in-Ok.ensures.builds.few_nodes;
    counts = of_file is (λ k tree. AreCounts (steps_of k tree) c.args.limits c.in-Ok.built.counts.items) (c.in-Ok.ensures.counts (core_of_file file) (of_core is));
  }

pub returns-in-Ok-clause-built : goal.returns-in-Ok-clause-built
returns-in-Ok-clause-built c = built_is (goal.at.returns-in-Ok-clause-built c).In-Ok

pub returns-in-Ok-clause-printable : goal.returns-in-Ok-clause-printable
returns-in-Ok-clause-printable c text file is range =
    printable is c.names_are_short.ensures c.measures_bound_core.ensures.steps c.args.limits range c.in-Ok.built
    (built_is (goal.at.returns-in-Ok-clause-printable c).In-Ok text file is)

pub refusal_of-requires : goal.refusal_of-requires
refusal_of-requires c =
    at_some_step c.args.self.now.core c.args.limits c.requires c.in-Err.fault (λ tree is. IfErr-at_err _ c.in-Err.is (c.build_counted.ensures.builds.over tree is))

pub returns-in-Err-clause-over : goal.returns-in-Err-clause-over
returns-in-Err-clause-over c text file is =
    let tree = core_of_file file in
    of_file is (λ k tree. NamesFirstOver (steps_of k tree) c.args.limits c.refusal_of.result)
    (c.refusal_of.ensures tree c.args.limits (of_core is)
    (IfErr-at_err _ c.in-Err.is (c.build_counted.ensures.builds.over tree (of_core is))))
