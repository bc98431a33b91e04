-- Faults of the names come first, and then those of the goal's measures.
use Rattle.std.proofs.Common.{sym, ap, ◌∙◌}
use Rattle.std.specs.Option.{option_or}
use Rattle.dcv_syntax.specs.Views.{plain_file}
use Rattle.dcv_scope.specs.Faults.{fault_of_goal}
use Rattle.dcv_scope.proofs.Faulting.{size_within, quantifiers_within, measures_first}
use Rattle.dcv_scope.proofs.expanding.expand.Goals as goal

pub returns-in-Some-measure_fault-clause-fault : goal.returns-in-Some-measure_fault-clause-fault
returns-in-Some-measure_fault-clause-fault c =
    let file = plain_file c.args.file.now in
    let names = sym c.in_ok-fault.ensures ∙ c.in_default.is in
    λ memory.
    ap (λ first. option_or first (fault_of_goal file)) names
    ∙ measures_first file c.in-Some-measure_fault.fault (sym c.measure_fault.ensures ∙ c.in-Some-measure_fault.is)

pub expanded_goal-requires-clause-size : goal.expanded_goal-requires-clause-size
expanded_goal-requires-clause-size c = size_within (plain_file c.args.file.now) (sym c.measure_fault.ensures ∙ c.in_default-measure_fault.is)

pub expanded_goal-requires-clause-slots : goal.expanded_goal-requires-clause-slots
expanded_goal-requires-clause-slots c = quantifiers_within (plain_file c.args.file.now) (sym c.measure_fault.ensures ∙ c.in_default-measure_fault.is)
