use Rattle.std.proofs.Common.{ℕ, Option, length, ap, sym, ◌∙◌}
use Rattle.std.specs.Option.{option_or}
use Rattle.dcv_syntax.specs.declared.propositions.PropOperand.{PropOperand}
use Rattle.dcv_syntax.specs.Views.{plain_prop_kind}
use Rattle.dcv_scope.specs.declared.faults.ScopeFault.{ScopeFault}
use Rattle.dcv_scope.specs.Names.{AtProposition, occurs, fault_at, occurrences_in_prop, first_fault}
use Rattle.dcv_scope.specs.Sights.{in_sight_of, first_of}
use Rattle.dcv_scope.proofs.NameRows.{fault_in, names-Call, names-Joined}
use Rattle.dcv_scope.proofs.naming.Sight.+names.Goals as goal

pub fault_in_prop-returns-in-Call : goal.fault_in_prop-returns-in-Call
fault_in_prop-returns-in-Call t c =
    let sight = in_sight_of c.args.self.now in
    let name = c.in-Call.name in
    let arguments = c.in-Call.arguments in
    let at : ℕ → Option ScopeFault = λ n. fault_at (occurs name (AtProposition n) sight) in
    c.or.ensures
    ∙ ap (λ fault. option_or fault c.arguments.result) c.at_proposition.ensures
    ∙ ap (option_or (at c.len.result)) (c.arguments.ensures ∙ ap (first_of (fault_in sight)) c.deref.ensures.value)
    ∙ ap (λ n. option_or (at n) (first_of (fault_in sight) arguments.items)) (c.len.ensures ∙ sym c.deref.ensures.len ∙ ap length c.deref.ensures.value)
    ∙ sym (names-Call sight name arguments)
    ∙ sym (ap (λ kind. first_fault (occurrences_in_prop sight (plain_prop_kind kind))) c.in-Call.is)

pub fault_in_prop-returns-in-Joined : goal.fault_in_prop-returns-in-Joined
fault_in_prop-returns-in-Joined t c =
    let sight = in_sight_of c.args.self.now in
    let fault : PropOperand → Option ScopeFault = λ o. first_fault (occurrences_in_prop sight (plain_prop_kind o.prop.kind)) in
    c.prop_operands.ensures
    ∙ ap (first_of fault) c.deref-in-Joined.ensures.value
    ∙ sym (names-Joined sight c.in-Joined.field-0 c.in-Joined.operands)
    ∙ sym (ap (λ kind. first_fault (occurrences_in_prop sight (plain_prop_kind kind))) c.in-Joined.is)
