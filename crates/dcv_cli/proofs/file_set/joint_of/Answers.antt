-- The names of each file are added in turn, or one of them does not fit.
use Rattle.dcv_cli.proofs.Common.{◌≡◌, suc, sym, ap, ◌∙◌, subst, List, None, Name, texts_of}
use Rattle.dcv_joint.specs.Faults.{most_names, too_many_at}
use Rattle.dcv_joint.specs.Names.{with_new}
use Rattle.dcv_cli.specs.Joined.{IsExtraName, IsRefusedName}
use Rattle.dcv_cli.specs.Refusal.{marked}
use Rattle.dcv_cli.proofs.JoinedSets.{AreJoining, IsReadAt, joining_begins, joining_ends, joining_goes_on, joining_refused, next, read_at}
use Rattle.dcv_cli.proofs.file_set.joint_of.Goals as goal

pub loop-place-init : goal.loop-place-init
loop-place-init c files are = subst (λ joint. AreJoining files joint 0) (sym c.new-joint.ensures) (joining_begins files)

pub returns-in-Err-clause-extra : goal.returns-in-Err-clause-extra
returns-in-Err-clause-extra c files are =
    let place = c.loop-place.place in
    let formula = c.index-formulas-place.result in
    let at = subst (IsReadAt files place) (sym c.index-formulas-place.is) (read_at files c.args.formulas.now place formula are c.loop-place-test.true) in
    let extra = subst (λ (names : List Name). IsRefusedName c.loop-place.joint names c.in-Err.refusal) at.is.names c.in-Err.ensures.extra in
    subst (IsExtraName files) (sym (c.in_file.ensures ∙ ap (λ which. marked which c.in-Err.refusal) c.number.ensures))
    (joining_refused (c.loop-place.invariant files are) at c.in-Err.refusal extra)

pub loop-place-preserved : goal.loop-place-preserved
loop-place-preserved c files are =
    let place = c.loop-place.place in
    let formula = c.index-formulas-place.result in
    let at = subst (IsReadAt files place) (sym c.index-formulas-place.is) (read_at files c.args.formulas.now place formula are c.loop-place-test.true) in
    let fit = subst (λ (names : List Name). too_many_at most_names c.loop-place.joint names ≡ None) at.is.names c.in_default.ensures.fit in
    subst (AreJoining files c.join.new.joint) (next place)
    (subst (λ joint. AreJoining files joint (suc place)) (sym (c.in_default.ensures.joined ∙ ap (λ (names : List Name). with_new c.loop-place.joint (texts_of names)) at.is.names))
    (joining_goes_on (c.loop-place.invariant files are) at fit))

pub returns-clause-joint : goal.returns-clause-joint
returns-clause-joint c files are =
    joining_ends files c.args.formulas.now c.loop-place.joint c.loop-place.place are c.loop-place-test.false (c.loop-place.invariant files are)
