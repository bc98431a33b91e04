use Rattle.std.proofs.Common.{Err, ap, ◌∙◌}
use Rattle.std.proofs.lemmas.Result.{err_from_is_err_and}
use Rattle.dcv_core.specs.TruthViews.{plain_basic}
use Rattle.dcv_atoms.specs.declared.faults.AtomFault.TheVariants.{Nodes}
use Rattle.dcv_atoms.specs.Parts.{proposition_parts, slot_parts}
use Rattle.dcv_atoms.proofs.Building.{exceeds_more}
use Rattle.dcv_atoms.proofs.FaultFacts.{same_fault}
use Rattle.dcv_atoms.proofs.atom.diagrams.Goals as goal

-- the parts of the proposition alone are too many
pub returns-in_err-root-clause-exceeds : goal.returns-in_err-root-clause-exceeds
returns-in_err-root-clause-exceeds c limit e =
    let p = err_from_is_err_and c.from_residual.result c.from_residual.ensures.1 in
    let basic = plain_basic c.args.basic.now in
    exceeds_more c.args.arena.now (proposition_parts basic) (slot_parts basic) limit
    (c.proposition.ensures.exceeds limit (c.in_err-root.was ∙ ap Err (same_fault _ _ _ (Nodes limit) p.1 p.2 e)))
