use Rattle.std.proofs.Common.{subst}
use Rattle.std.proofs.lemmas.Result.{err_from_is_err_and}
use Rattle.dcv_atoms.specs.AtomRows.{atom_machine}
use Rattle.dcv_atoms.specs.Parts.{atom_nodes}
use Rattle.dcv_explore.specs.declared.explorer.Limits.{Limits}
use Rattle.dcv_build.specs.Settled.{Settles}
use Rattle.dcv_build.proofs.Answered.{answers_fault, put_answers}
use Rattle.dcv_build.proofs.building.Building.take_atom.Goals as goal

pub returns-in_err-explored-clause-answers : goal.returns-in_err-explored-clause-answers
returns-in_err-explored-clause-answers c basic slots is =
    let now = c.args.self.now in
    let p = err_from_is_err_and c.from_residual.result c.from_residual.ensures.1 in
    let settles = subst (λ (l : Limits). Settles (atom_machine slots basic) (atom_nodes slots basic) l c.args.step c.atom.result) c.limits.ensures (c.atom.ensures basic slots is) in
    answers_fault (atom_machine slots basic) (atom_nodes slots basic) now.known.limits c.args.step now.known.tables c.atom.result settles p.0 _ c.in_err-explored.was c.from_residual.result p.1 p.2

pub returns-clause-answers : goal.returns-clause-answers
returns-clause-answers c basic slots is =
    let now = c.args.self.now in
    let machine = atom_machine slots basic in
    let parts = atom_nodes slots basic in
    let settles = subst (λ (l : Limits). Settles machine parts l c.args.step c.atom.result) c.limits.ensures (c.atom.ensures basic slots is) in
    let explored = subst (Settles machine parts now.known.limits c.args.step) c.in_ok-explored.was settles in
    put_answers machine parts now.known.limits c.args.step c.put.new.self.tables c.in_ok-explored.explored c.in_ok-made.made c.in_ok-put.field-0 explored.built c.in_ok-made.ensures c.in_ok-put.ensures.put
