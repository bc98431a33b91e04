use Rattle.std.proofs.Common.{[], subst}
use Rattle.dcv_atoms.specs.AtomRows.{atom_machine}
use Rattle.dcv_atoms.specs.Parts.{atom_nodes}
use Rattle.dcv_core.specs.Steps.{OpAtom}
use Rattle.dcv_explore.specs.declared.explorer.Limits.{Limits}
use Rattle.dcv_build.specs.Asked.{asked_row, tables_at}
use Rattle.dcv_build.specs.Building.{DecidesStep}
use Rattle.dcv_build.specs.Rows.{row_of}
use Rattle.dcv_build.specs.Tasks.{op_like}
use Rattle.dcv_build.proofs.AtSteps.{atom_here, atom_op, operands_at, leads_on, atom_leads_on}
use Rattle.dcv_build.proofs.Settled.{settled_serves, serves_decides}
use Rattle.dcv_build.proofs.Turning.{decides_step}
use Rattle.dcv_build.proofs.building.Building.decide.Goals as goal

pub task_of-requires-clause-waiting : goal.task_of-requires-clause-waiting
task_of-requires-clause-waiting c =
    let mid = c.take_steps.new.self in
    record { shelf = mid.known.tables; limits = mid.known.limits; counts = mid.counts.items; built = c.in_ok-take_steps.ensures.built.built }

pub make_atom-requires : goal.make_atom-requires
make_atom-requires c = atom_here c.args.core.now c.args.last c.in-Atom.ensures.is.0 c.requires.core c.in-Atom.ensures.is.1

pub unreachable-requires : goal.unreachable-requires
unreachable-requires c = c.requires.operator c.in-Complement.ensures.is.0 c.in-Complement.ensures.is.1

pub decide-requires : goal.decide-requires
decide-requires c =
    let mid = c.take_steps.new.self in
    let was = c.in_ok-take_steps.ensures.built in
    let task = c.in-Operator.ensures in
    operands_at c.args.core.now mid.known.limits c.args.last mid.counts.items mid.known.tables mid.waiting.items c.task_of.new.waiting.items was.built was.there
    c.in-Operator.asked task.is.0 task.is.1 task.taken c.requires.core task.is.2

pub returns-in-Operator : goal.returns-in-Operator
returns-in-Operator c =
    let core = c.args.core.now in
    let mid = c.take_steps.new.self in
    let left = c.task_of.new.waiting.items in
    let was = c.in_ok-take_steps.ensures.built in
    let task = c.in-Operator.ensures in
    let asked = c.in-Operator.asked in
    let row = asked_row mid.known.tables asked in
    subst (λ (l : Limits). DecidesStep core l c.args.last c.decide.result) c.take_steps.ensures.limits
    (decides_step core mid.known.limits c.args.last (tables_at mid.known.tables left) mid.counts.items row.machine row.parts
    (leads_on core mid.known.limits c.args.last mid.counts.items mid.known.tables mid.waiting.items left was.built was.there asked task.is.0 task.is.1 task.taken
    c.machines_accept_steps.ensures.step task.is.2)
    (op_like asked task.is.0 task.is.1) task.is.2 c.decide.result c.decide.ensures.decides)

pub returns-in-Atom : goal.returns-in-Atom
returns-in-Atom c =
    let core = c.args.core.now in
    let mid = c.take_steps.new.self in
    let was = c.in_ok-take_steps.ensures.built in
    let atom = atom_here core c.args.last c.in-Atom.ensures.is.0 c.requires.core c.in-Atom.ensures.is.1 in
    let machine = atom_machine atom.1 atom.0 in
    let parts = atom_nodes atom.1 atom.0 in
    subst (λ (l : Limits). DecidesStep core l c.args.last c.make_atom.result) c.take_steps.ensures.limits
    (decides_step core mid.known.limits c.args.last (tables_at mid.known.tables mid.waiting.items) mid.counts.items machine parts
    (atom_leads_on core mid.known.limits c.args.last mid.counts.items mid.known.tables mid.waiting.items was.built atom.0 atom.1 c.machines_accept_steps.ensures.step atom.2)
    (OpAtom atom.0) (atom_op core c.args.last atom.0 atom.1 atom.2) c.make_atom.result
    (serves_decides machine parts mid.known.limits c.args.last c.make_atom.result
    (settled_serves (row_of (OpAtom atom.0) atom.1 []) mid.known.limits c.args.last c.make_atom.result (c.make_atom.ensures.settles atom.0 atom.1 atom.2))))
