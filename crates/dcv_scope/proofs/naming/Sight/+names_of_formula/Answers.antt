use Rattle.std.proofs.Common.{ℕ, Option, length, ap, sym, ◌∙◌}
use Rattle.std.specs.Option.{option_or}
use Rattle.dcv_syntax.specs.Views.{plain_formula_kind}
use Rattle.dcv_scope.specs.declared.faults.ScopeFault.{ScopeFault}
use Rattle.dcv_scope.specs.Names.{AtFormula, occurs, fault_at, occurrences_in_formula, first_fault}
use Rattle.dcv_scope.specs.Sights.{in_sight_of, first_of}
use Rattle.dcv_scope.proofs.NameRows.{fault_in, fault_in_formula, formula-Call, formula-Joined}
use Rattle.dcv_core.proofs.MadeSteps.{then_ok}
use Rattle.dcv_scope.proofs.naming.Sight.+names_of_formula.Goals as goal

pub fault_in_formula-returns-in-Call : goal.fault_in_formula-returns-in-Call
fault_in_formula-returns-in-Call t c =
    let sight = in_sight_of c.args.self.now in
    let name = c.in-Call.name in
    let arguments = c.in-Call.arguments in
    let at : ℕ → Option ScopeFault = λ n. fault_at (occurs name (AtFormula n) sight) in
    c.or.ensures
    ∙ ap (λ fault. option_or fault c.arguments.result) c.at_formula.ensures
    ∙ ap (option_or (at c.len.result)) (c.arguments.ensures ∙ ap (first_of (fault_in sight)) c.deref.ensures.value)
    ∙ ap (λ n. option_or (at n) (first_of (fault_in sight) arguments.items)) (c.len.ensures ∙ sym c.deref.ensures.len ∙ ap length c.deref.ensures.value)
    ∙ sym (formula-Call sight name arguments)
    ∙ sym (ap (λ kind. first_fault (occurrences_in_formula sight (plain_formula_kind kind))) c.in-Call.is)

pub fault_in_formula-returns-in-Joined : goal.fault_in_formula-returns-in-Joined
fault_in_formula-returns-in-Joined t c =
    let sight = in_sight_of c.args.self.now in
    then_ok c.operands.result c.operands.ensures
    (λ fault is. is
    ∙ ap (first_of (fault_in_formula sight)) c.deref-in-Joined.ensures.value
    ∙ sym (formula-Joined sight c.in-Joined.field-0 c.in-Joined.operands)
    ∙ sym (ap (λ kind. first_fault (occurrences_in_formula sight (plain_formula_kind kind))) c.in-Joined.is))
