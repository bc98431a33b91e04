-- A refusal of the names is one of the set, and so is one of the automata.
use Rattle.dcv_cli.proofs.Common.{err_from_is_err_and, subst}
use Rattle.dcv_cli.specs.Joined.{AreAutosOver, FilesAreOver, IsOverAt, NamesAreMany}
use Rattle.dcv_cli.proofs.file_set.joined.Goals as goal

pub returns-in_err-joint-clause-refused : goal.returns-in_err-joint-clause-refused
returns-in_err-joint-clause-refused c files are =
    let p = err_from_is_err_and c.from_residual.result c.from_residual.ensures.1 in
    rw (p.1, p.2) (NamesAreMany (c.in_err-joint.ensures.extra files are))

pub returns-in_err-autos-clause-refused : goal.returns-in_err-autos-clause-refused
returns-in_err-autos-clause-refused c files are =
    let p = err_from_is_err_and c.from_residual-in_err-autos.result c.from_residual-in_err-autos.ensures.1 in
    let names = c.in_ok-joint.ensures.joint files are in
    rw (p.1, p.2) (FilesAreOver names.fits
    (subst (λ joint. IsOverAt c.args.limits joint files c.in_err-autos.field-0.0) names.is (c.in_err-autos.ensures.over files are names.is)))

pub returns-clause-joined : goal.returns-clause-joined
returns-clause-joined c files are =
    let names = c.in_ok-joint.ensures.joint files are in
    record {
      names = names;
      autos = subst (λ joint. AreAutosOver c.args.limits joint files c.in_ok-autos.autos.items) names.is (c.in_ok-autos.ensures.autos files are names.is);
    }
