use Rattle.std.proofs.Common.{Err, ap, ◌∙◌, arith}
use Rattle.std.proofs.lemmas.Result.{err_from_is_err_and}
use Rattle.dcv_atoms.proofs.FaultFacts.{nodes_from_arena}
use Rattle.dcv_atoms.proofs.SlotSteps.{none_builds, slot_builds, slot_exceeds}
use Rattle.dcv_atoms.proofs.proposition.value.Goals as goal

pub returns-then-slot-slots-clause-builds : goal.returns-then-slot-slots-clause-builds
returns-then-slot-slots-clause-builds c =
    none_builds c.args.arena.now c.args.slot c.leaf-no.result c.leaf-no.ensures.is_ref c.leaf-no.ensures.value
    (omega (arith, c.if-slot-slots.true, c.slots.ensures.slots))

pub returns-in_err-node-clause-exceeds : goal.returns-in_err-node-clause-exceeds
returns-in_err-node-clause-exceeds c limit e =
    let p = err_from_is_err_and c.from_residual.result c.from_residual.ensures.1 in
    let fault = c.in_err-node.was ∙ ap Err (nodes_from_arena _ _ limit p.1 _ p.2 e) in
    let no = c.leaf-no.ensures in
    let yes = c.leaf-yes.ensures in
    slot_exceeds c.args.arena.now c.args.slot c.leaf-no.result no.is_ref no.value c.leaf-yes.result yes.is_ref yes.value limit c.requires.arena
    (omega (arith, c.if-slot-slots.false, c.slots.ensures.slots)) no.level yes.level ((c.node.ensures.full limit).0 fault)

pub returns-clause-builds : goal.returns-clause-builds
returns-clause-builds c =
    let no = c.leaf-no.ensures in
    let yes = c.leaf-yes.ensures in
    let node = c.in_ok-node.ensures in
    slot_builds c.args.arena.now c.args.slot c.leaf-no.result no.is_ref no.value c.leaf-yes.result yes.is_ref yes.value c.node.new.self c.in_ok-node.field-0
    node.kept node.adds node.is_ref node.value
