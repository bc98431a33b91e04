use Rattle.dcv_cli.proofs.Common.{sym, subst, List, Name}
use Rattle.dcv_cli.specs.Joined.{IsRefusedName, refusal_of_joint}
use Rattle.dcv_cli.proofs.OverJoint.{names_refused}
use Rattle.dcv_cli.proofs.formula_file.FormulaFile.join.Goals as goal

pub returns-in-Err-clause-extra : goal.returns-in-Err-clause-extra
returns-in-Err-clause-extra c =
    subst (IsRefusedName c.args.joint.now c.args.self.now.names.items) (sym c.refusal_of_joint.ensures)
    (subst (λ (names : List Name). IsRefusedName c.args.joint.now names (refusal_of_joint c.in-Err.fault c.args.self.now.goal)) c.deref.ensures.value
    (names_refused c.in-Err.fault c.args.self.now.goal c.args.joint.now c.deref.result.now c.in-Err.ensures.fault))
