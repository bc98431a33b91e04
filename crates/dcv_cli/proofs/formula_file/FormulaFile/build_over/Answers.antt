-- The automaton over the joint names, or the first step that is over the limits.
use Rattle.dcv_cli.proofs.Common.{core_of_file, subst, sym, IfOk, OnOk, err_from_is_err_and, Result, RawValue, IsAutomatonOf, IsWithinBudget, words_of, steps_of}
use Rattle.dcv_build.specs.declared.faults.BuildFault.{BuildFault}
use Rattle.std.proofs.lemmas.Result.{IfErr-at_err}
use Rattle.dcv_joint.specs.Moved.{moved_core}
use Rattle.dcv_cli.specs.FileSet.{own_names}
use Rattle.dcv_cli.proofs.Budgets.{at_some_step}
use Rattle.dcv_cli.proofs.OverJoint.{auto_over, refused_over, slots_are_over}
use Rattle.dcv_cli.proofs.formula_file.FormulaFile.build_over.Goals as goal

pub returns-in_err-core-clause-over : goal.returns-in_err-core-clause-over
returns-in_err-core-clause-over c text file is =
    let p = err_from_is_err_and c.from_residual.result c.from_residual.ensures.1 in
    rw (p.1, p.2) (slots_are_over c.args.limits c.args.joint.now file c.in_err-core.field-0.0 (c.in_err-core.ensures.slots text file is))

pub returns-in-Ok-clause-built : goal.returns-in-Ok-clause-built
returns-in-Ok-clause-built c text file is has =
    let over = c.in_ok-core.ensures.core text file is in
    let tree = moved_core c.args.joint.now (own_names file) (core_of_file file) in
    rw c.looked_at.ensures.same
    (auto_over over c.args.limits c.moved_means_restricted.ensures.file has is.spelled.has_core c.in-Ok.auto (rw (sym c.looked_at.ensures.same) c.looked_at.ensures.auto)
    (subst (λ (result : Result RawValue BuildFault). IfOk result (IsAutomatonOf c.in_ok-core.core.declared (words_of tree))) c.in-Ok.is (c.build.ensures.is tree over.is)) (subst (λ (result : Result RawValue BuildFault). OnOk result (IsWithinBudget (steps_of c.in_ok-core.core.declared tree) c.args.limits)) c.in-Ok.is (c.build.ensures.within tree over.is)))

pub refusal_of-requires : goal.refusal_of-requires
refusal_of-requires c =
    let over = c.in_ok-core.ensures.core c.requires.text c.requires.file c.requires.is in
    at_some_step c.in_ok-core.core c.args.limits (record { tree = moved_core c.args.joint.now (own_names c.requires.file) (core_of_file c.requires.file); is = over.is }) c.in-Err.fault
    (λ tree is. IfErr-at_err _ c.in-Err.is (c.build.ensures.over tree is))

pub returns-clause-over : goal.returns-clause-over
returns-clause-over c text file is =
    let over = c.in_ok-core.ensures.core text file is in
    let tree = moved_core c.args.joint.now (own_names file) (core_of_file file) in
    refused_over over c.args.limits c.refusal_of.result (c.refusal_of.ensures tree c.args.limits over.is (IfErr-at_err _ c.in-Err.is (c.build.ensures.over tree over.is)))
