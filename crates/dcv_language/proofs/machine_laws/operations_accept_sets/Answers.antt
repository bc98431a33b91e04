use Rattle.dcv_language.specs.Language.{outside}
use Rattle.dcv_language.specs.Automaton.{accepts}
use Rattle.dcv_language.specs.Operations.{intersection, union, agreement, chop, star, projection}
use Rattle.dcv_language.specs.OperationMachines.{not_machine, and_machine, or_machine, iff_machine, chop_machine, star_machine, exists_machine}
use Rattle.dcv_language.proofs.OperationSets.{of_set}
use Rattle.dcv_language.proofs.machine_laws.operations_accept_sets.Goals as goal

pub returns-clause-not : goal.returns-clause-not
returns-clause-not c slots k operand L same =
    of_set (not_machine slots operand).automaton k (outside (accepts operand)) (outside L)
    (c.operations_accept.ensures.not slots operand)
    (c.operations_keep_sameness.ensures.outside k (accepts operand) L same)

pub returns-clause-star : goal.returns-clause-star
returns-clause-star c slots k operand L same =
    of_set (star_machine slots operand).automaton k (star (accepts operand)) (star L)
    (c.operations_accept.ensures.star slots operand)
    (c.operations_keep_sameness.ensures.star k (accepts operand) L same)

pub returns-clause-exists : goal.returns-clause-exists
returns-clause-exists c slots k operand L same =
    of_set (exists_machine slots operand).automaton k (projection (accepts operand)) (projection L)
    (c.operations_accept.ensures.exists slots operand)
    (c.operations_keep_sameness.ensures.projection k (accepts operand) L same)

pub returns-clause-and : goal.returns-clause-and
returns-clause-and c slots k first second L M one two =
    of_set (and_machine slots first second).automaton k (intersection (accepts first) (accepts second)) (intersection L M)
    (c.operations_accept.ensures.and slots first second)
    (c.operations_keep_sameness.ensures.intersection k (accepts first) L (accepts second) M one two)

pub returns-clause-or : goal.returns-clause-or
returns-clause-or c slots k first second L M one two =
    of_set (or_machine slots first second).automaton k (union (accepts first) (accepts second)) (union L M)
    (c.operations_accept.ensures.or slots first second)
    (c.operations_keep_sameness.ensures.union k (accepts first) L (accepts second) M one two)

pub returns-clause-iff : goal.returns-clause-iff
returns-clause-iff c slots k first second L M one two =
    of_set (iff_machine slots first second).automaton k (agreement (accepts first) (accepts second)) (agreement L M)
    (c.operations_accept.ensures.iff slots first second)
    (c.operations_keep_sameness.ensures.agreement k (accepts first) L (accepts second) M one two)

pub returns-clause-chop : goal.returns-clause-chop
returns-clause-chop c slots k first second L M one two =
    of_set (chop_machine slots first second).automaton k (chop (accepts first) (accepts second)) (chop L M)
    (c.operations_accept.ensures.chop slots first second)
    (c.operations_keep_sameness.ensures.chop k (accepts first) L (accepts second) M one two)
