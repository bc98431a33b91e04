use Rattle.std.proofs.Common.{ℕ, List, [], ◌∷◌, ◌++◌, ◌≡◌, sym, subst, ◌∙◌, arith}
use Rattle.std.proofs.lemmas.List.{append-nil}
use Rattle.std.proofs.lemmas.Option.{slice_get_within}
use Rattle.dcv_build.specs.Asked.{at_number, tables_at, AreThere}
use Rattle.dcv_build.specs.Building.{ForTree, Goes}
use Rattle.dcv_build.specs.Tasks.{numbers_of, numbers_taken, IsTask}
use Rattle.dcv_build.specs.declared.tasks.Task.{Task}
use Rattle.dcv_build.proofs.Answered.{answer_within}
use Rattle.dcv_build.proofs.AtSteps.{atom_here, rest_are, numbers_are, operands_at, goes_on, not_goes_on, atom_goes_on}
use Rattle.dcv_build.proofs.ShelfTables.{are_kept, there_at}
use Rattle.dcv_build.proofs.building.Building.take_step.Goals as goal

pub task_of-requires-clause-waiting : goal.task_of-requires-clause-waiting
task_of-requires-clause-waiting c =
    let now = c.args.self.now in
    record { shelf = now.known.tables; limits = now.known.limits; counts = now.counts.items; built = c.requires.built.built }

pub take_atom-requires : goal.take_atom-requires
take_atom-requires c =
    let core = c.args.core.now in
    let is = subst (IsTask core c.args.step) c.in-Atom.is c.task_of.ensures.is in
    atom_here core c.args.step is.0 c.requires.core is.1

pub ask-requires : goal.ask-requires
ask-requires c =
    let now = c.args.self.now in
    let left = c.task_of.new.waiting.items in
    let asked = c.in-Operator.asked in
    let is = subst (IsTask c.args.core.now c.args.step) c.in-Operator.is c.task_of.ensures.is in
    let taken = subst (λ (t : Task). now.waiting.items ≡ left ++ numbers_taken t) c.in-Operator.is c.task_of.ensures.taken in
    operands_at c.args.core.now now.known.limits c.args.step now.counts.items now.known.tables now.waiting.items left c.requires.built.built c.requires.built.there
    asked is.0 is.1 taken c.requires.core is.2

pub returns-in-Operator-clause-there : goal.returns-in-Operator-clause-there
returns-in-Operator-clause-there c =
    let now = c.args.self.now in
    let left = c.task_of.new.waiting.items in
    let taken = subst (λ (t : Task). now.waiting.items ≡ left ++ numbers_taken t) c.in-Operator.is c.task_of.ensures.taken in
    are_kept now.known.tables c.ask.new.self.tables c.ask.ensures.kept left (rest_are c.args.core.now now.known.limits c.args.step now.counts.items now.known.tables now.waiting.items left c.requires.built.built c.requires.built.there (numbers_of c.in-Operator.asked) taken)

pub returns-in-Operator-clause-number : goal.returns-in-Operator-clause-number
returns-in-Operator-clause-number c = answer_within _ _ _ c.args.step c.ask.new.self.tables c.ask.result c.ask.ensures.answers

pub returns-in-Operator-clause-goes : goal.returns-in-Operator-clause-goes
returns-in-Operator-clause-goes c =
    let now = c.args.self.now in
    let left = c.task_of.new.waiting.items in
    let taken = subst (λ (t : Task). now.waiting.items ≡ left ++ numbers_taken t) c.in-Operator.is c.task_of.ensures.taken in
    let is = subst (IsTask c.args.core.now c.args.step) c.in-Operator.is c.task_of.ensures.is in
    goes_on c.args.core.now now.known.limits c.args.step now.counts.items now.known.tables now.waiting.items left c.requires.built.built c.requires.built.there
    c.in-Operator.asked is.0 is.1 taken c.machines_accept_steps.ensures.step is.2 c.ask.new.self.tables c.ask.ensures.kept c.ask.result c.ask.ensures.answers

pub returns-in-Atom-clause-there : goal.returns-in-Atom-clause-there
returns-in-Atom-clause-there c =
    let now = c.args.self.now in
    let left = c.task_of.new.waiting.items in
    let taken = subst (λ (t : Task). now.waiting.items ≡ left ++ numbers_taken t) c.in-Atom.is c.task_of.ensures.taken in
    let new = c.take_atom.new.self in
    subst (AreThere new.known.tables) (λ i. (sym c.take_atom.ensures.waiting i).items)
    (are_kept now.known.tables new.known.tables c.take_atom.ensures.kept left (rest_are c.args.core.now now.known.limits c.args.step now.counts.items now.known.tables now.waiting.items left c.requires.built.built c.requires.built.there [] taken))

pub returns-in-Atom-clause-number : goal.returns-in-Atom-clause-number
returns-in-Atom-clause-number c =
    let core = c.args.core.now in
    let is = subst (IsTask core c.args.step) c.in-Atom.is c.task_of.ensures.is in
    let atom = atom_here core c.args.step is.0 c.requires.core is.1 in
    answer_within _ _ _ c.args.step c.take_atom.new.self.known.tables c.take_atom.result (c.take_atom.ensures.answers atom.0 atom.1 atom.2)

pub returns-in-Atom-clause-goes : goal.returns-in-Atom-clause-goes
returns-in-Atom-clause-goes c =
    let now = c.args.self.now in
    let left = c.task_of.new.waiting.items in
    let taken = subst (λ (t : Task). now.waiting.items ≡ left ++ numbers_taken t) c.in-Atom.is c.task_of.ensures.taken in
    let new = c.take_atom.new.self in
    let is = subst (IsTask c.args.core.now c.args.step) c.in-Atom.is c.task_of.ensures.is in
    subst (λ (w : List ℕ). ForTree c.args.core.now (λ steps. Goes steps now.known.limits c.args.step (tables_at new.known.tables w) now.counts.items new.known.tables c.take_atom.result))
    (taken ∙ append-nil left ∙ (λ i. (sym c.take_atom.ensures.waiting i).items))
    (atom_goes_on c.args.core.now now.known.limits c.args.step now.counts.items now.known.tables now.waiting.items c.requires.built.built c.requires.built.there is.0
    c.machines_accept_steps.ensures.step is.1 new.known.tables c.take_atom.ensures.kept c.take_atom.result (c.take_atom.ensures.answers is.0))

pub not-requires : goal.not-requires
not-requires c =
    let now = c.args.self.now in
    let left = c.task_of.new.waiting.items in
    let taken = subst (λ (t : Task). now.waiting.items ≡ left ++ numbers_taken t) c.in-Complement.is c.task_of.ensures.taken in
    numbers_are c.args.core.now now.known.limits c.args.step now.counts.items now.known.tables now.waiting.items left c.requires.built.built c.requires.built.there (c.in-Complement.operand ∷ []) taken 0 0 (omega arith)

pub returns-in_err-not-in-Complement-clause-there : goal.returns-in_err-not-in-Complement-clause-there
returns-in_err-not-in-Complement-clause-there c =
    let now = c.args.self.now in
    let left = c.task_of.new.waiting.items in
    let taken = subst (λ (t : Task). now.waiting.items ≡ left ++ numbers_taken t) c.in-Complement.is c.task_of.ensures.taken in
    are_kept now.known.tables c.not.new.self.tables c.not.ensures.kept left (rest_are c.args.core.now now.known.limits c.args.step now.counts.items now.known.tables now.waiting.items left c.requires.built.built c.requires.built.there (c.in-Complement.operand ∷ []) taken)

pub returns-in_ok-not-in-Complement-clause-there : goal.returns-in_ok-not-in-Complement-clause-there
returns-in_ok-not-in-Complement-clause-there c =
    let now = c.args.self.now in
    let left = c.task_of.new.waiting.items in
    let taken = subst (λ (t : Task). now.waiting.items ≡ left ++ numbers_taken t) c.in-Complement.is c.task_of.ensures.taken in
    are_kept now.known.tables c.not.new.self.tables c.not.ensures.kept left (rest_are c.args.core.now now.known.limits c.args.step now.counts.items now.known.tables now.waiting.items left c.requires.built.built c.requires.built.there (c.in-Complement.operand ∷ []) taken)

pub returns-in_ok-not-in-Complement-clause-number : goal.returns-in_ok-not-in-Complement-clause-number
returns-in_ok-not-in-Complement-clause-number c =
    let now = c.args.self.now in
    let left = c.task_of.new.waiting.items in
    let taken = subst (λ (t : Task). now.waiting.items ≡ left ++ numbers_taken t) c.in-Complement.is c.task_of.ensures.taken in
    let operand = c.in-Complement.operand in
    let within = numbers_are c.args.core.now now.known.limits c.args.step now.counts.items now.known.tables now.waiting.items left c.requires.built.built c.requires.built.there (operand ∷ []) taken 0 0 (omega arith) in
    let turned = c.in_ok-not-in-Complement.ensures.turned (at_number now.known.tables operand) (there_at now.known.tables operand within) in
    slice_get_within c.not.new.self.tables c.in_ok-not-in-Complement.field-0.number turned.turned turned.there

pub returns-in_ok-not-in-Complement-clause-goes : goal.returns-in_ok-not-in-Complement-clause-goes
returns-in_ok-not-in-Complement-clause-goes c =
    let now = c.args.self.now in
    let left = c.task_of.new.waiting.items in
    let taken = subst (λ (t : Task). now.waiting.items ≡ left ++ numbers_taken t) c.in-Complement.is c.task_of.ensures.taken in
    let operand = c.in-Complement.operand in
    let is = subst (IsTask c.args.core.now c.args.step) c.in-Complement.is c.task_of.ensures.is in
    let within = numbers_are c.args.core.now now.known.limits c.args.step now.counts.items now.known.tables now.waiting.items left c.requires.built.built c.requires.built.there (operand ∷ []) taken 0 0 (omega arith) in
    not_goes_on c.args.core.now now.known.limits c.args.step now.counts.items now.known.tables now.waiting.items left c.requires.built.built c.requires.built.there
    operand is.0 taken c.machines_accept_steps.ensures.step c.one_canonical_table.ensures is.1 c.not.new.self.tables c.not.ensures.kept c.in_ok-not-in-Complement.field-0
    (c.in_ok-not-in-Complement.ensures.turned (at_number now.known.tables operand) (there_at now.known.tables operand within))
