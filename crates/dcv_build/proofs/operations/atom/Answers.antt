use Rattle.std.proofs.Common.{◌≡◌, Err, ap, ◌∙◌, arith}
use Rattle.dcv_atoms.specs.AtomRows.{atom_machine}
use Rattle.dcv_atoms.specs.Parts.{atom_nodes}
use Rattle.dcv_build.proofs.Settled.{settled_parts, settled_same}
use Rattle.dcv_build.proofs.operations.atom.Goals as goal

pub settle-requires : goal.settle-requires
settle-requires c =
    let form = c.in-Ok.ensures.form c.requires.0 c.requires.1 c.requires.2 in
    let slots = c.in-Ok.ensures.slots c.requires.0 c.requires.1 c.requires.2 in
    let nodes : c.nodes.result ≡ atom_nodes c.requires.1 c.requires.0 = c.nodes.ensures ∙ (λ i. atom_nodes (slots i) (form i)) in
    omega (arith, nodes, c.in-Ok.ensures.within c.requires.0 c.requires.1 c.requires.2)

pub returns-in-Ok : goal.returns-in-Ok
returns-in-Ok c basic own is =
    let form = c.in-Ok.ensures.form basic own is in
    let slots = c.in-Ok.ensures.slots basic own is in
    let nodes : c.nodes.result ≡ atom_nodes own basic = c.nodes.ensures ∙ (λ i. atom_nodes (slots i) (form i)) in
    settled_same _ (atom_machine own basic) c.nodes.result (atom_nodes own basic) c.args.limits c.args.step c.settle.result (c.in-Ok.ensures.row basic own is) nodes c.settle.ensures

pub returns-in-Err-Nodes : goal.returns-in-Err-Nodes
returns-in-Err-Nodes c basic slots is =
    let same = ap Err c.in-Err-Nodes.field-0-is in
    let more = c.in-Err-Nodes.ensures.exceeds c.in-Err-Nodes.field-0-0 basic slots same is in
    let own = c.in-Err-Nodes.ensures.limit c.in-Err-Nodes.field-0-0 same in
    settled_parts (atom_machine slots basic) (atom_nodes slots basic) c.args.limits c.args.step (omega (arith, more, own))
