-- The core over the joint names, or why there is none.
use Rattle.dcv_cli.proofs.Common.{sym, subst, core_of_file}
use Rattle.dcv_cli.specs.Joined.{IsSlotsRefusal}
use Rattle.dcv_cli.proofs.Budgets.{of_core}
use Rattle.dcv_cli.proofs.OverJoint.{core_is_over, slots_refused}
use Rattle.dcv_cli.proofs.formula_file.FormulaFile.core_over.Goals as goal

pub returns-in-Ok-clause-core : goal.returns-in-Ok-clause-core
returns-in-Ok-clause-core c text file is =
    core_is_over is c.args.joint.now c.deref.result.now c.deref.ensures.value c.in-Ok.core c.in-Ok.ensures.declared (c.in-Ok.ensures.core (core_of_file file) (of_core is))
    c.in-Ok.ensures.few

pub returns-in-Err-clause-slots : goal.returns-in-Err-clause-slots
returns-in-Err-clause-slots c text file is =
    subst (IsSlotsRefusal c.args.joint.now file) (sym c.refusal_of_joint.ensures)
    (slots_refused is c.args.joint.now c.deref.result.now c.deref.ensures.value c.in-Err.fault c.in-Err.ensures.fault)
