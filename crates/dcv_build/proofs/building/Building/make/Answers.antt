use Rattle.std.proofs.Common.{ℕ, List, sym, subst, ◌∙◌}
use Rattle.std.proofs.lemmas.List.{append-nil}
use Rattle.dcv_build.specs.Asked.{KnownValue, tables_at}
use Rattle.dcv_build.specs.Building.{ForTree, Makes}
use Rattle.dcv_build.proofs.AtSteps.{atom_here, operands_at, makes_on, atom_makes_on}
use Rattle.dcv_build.proofs.building.Building.make.Goals as goal

pub task_of-requires-clause-waiting : goal.task_of-requires-clause-waiting
task_of-requires-clause-waiting c =
    let now = c.args.self.now in
    record { shelf = now.known.tables; limits = now.known.limits; counts = now.counts.items; built = c.requires.built.built }

pub make_atom-requires : goal.make_atom-requires
make_atom-requires c = atom_here c.args.core.now c.args.step c.in-Atom.ensures.is.0 c.requires.core c.in-Atom.ensures.is.1

pub unreachable-requires : goal.unreachable-requires
unreachable-requires c = c.requires.operator c.in-Complement.ensures.is.0 c.in-Complement.ensures.is.1

pub make-requires : goal.make-requires
make-requires c =
    let now = c.args.self.now in
    let task = c.in-Operator.ensures in
    operands_at c.args.core.now now.known.limits c.args.step now.counts.items now.known.tables now.waiting.items c.task_of.new.waiting.items c.requires.built.built c.requires.built.there
    c.in-Operator.asked task.is.0 task.is.1 task.taken c.requires.core task.is.2

pub returns-in-Operator-clause-makes : goal.returns-in-Operator-clause-makes
returns-in-Operator-clause-makes c =
    let now = c.args.self.now in
    let left = c.task_of.new.waiting.items in
    let task = c.in-Operator.ensures in
    subst (λ (known : KnownValue). ForTree c.args.core.now (λ steps. Makes steps now.known.limits c.args.step (tables_at known.tables left) now.counts.items c.make.result)) (sym c.make.ensures.same)
    (makes_on c.args.core.now now.known.limits c.args.step now.counts.items now.known.tables now.waiting.items left c.requires.built.built c.requires.built.there
    c.in-Operator.asked task.is.0 task.is.1 task.taken c.machines_accept_steps.ensures.step task.is.2 c.make.result c.make.ensures.serves)

pub returns-in-Atom-clause-makes : goal.returns-in-Atom-clause-makes
returns-in-Atom-clause-makes c =
    let now = c.args.self.now in
    let new = c.make_atom.new.self in
    let task = c.in-Atom.ensures in
    let atom = atom_here c.args.core.now c.args.step task.is.0 c.requires.core task.is.1 in
    subst (λ (known : KnownValue). ForTree c.args.core.now (λ steps. Makes steps now.known.limits c.args.step (tables_at known.tables new.waiting.items) now.counts.items c.make_atom.result))
    (sym c.make_atom.ensures.known)
    (subst (λ (w : List ℕ). ForTree c.args.core.now (λ steps. Makes steps now.known.limits c.args.step (tables_at now.known.tables w) now.counts.items c.make_atom.result))
    (task.taken ∙ append-nil c.task_of.new.waiting.items ∙ (λ i. (sym c.make_atom.ensures.waiting i).items))
    (atom_makes_on c.args.core.now now.known.limits c.args.step now.counts.items now.known.tables now.waiting.items c.requires.built.built atom.0 atom.1
    c.machines_accept_steps.ensures.step atom.2 c.make_atom.result (c.make_atom.ensures.settles atom.0 atom.1 atom.2)))
