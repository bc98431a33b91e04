use Rattle.std.proofs.Common.{arith}
use Rattle.dcv_automaton_lines.proofs.WordSets.{accept_stuck, reject_stuck, begins_otherwise, other_first, passes}
use Rattle.dcv_automaton_lines.proofs.words.answer.Goals as goal

pub returns-in_err-rest-clause-fault : goal.returns-in_err-rest-clause-fault
returns-in_err-rest-clause-fault c =
    passes _ _ _ c.in_err-rest.field-0.0 c.from_residual.ensures.1
    (accept_stuck c.in_err-rest.ensures.fault (other_first 114 c.args.text.now (λ some is. omega (arith, is, (c.begins_with.ensures.0 c.if-begins_with.true).1))))

pub returns-in_err-rest-2-clause-fault : goal.returns-in_err-rest-2-clause-fault
returns-in_err-rest-2-clause-fault c =
    passes _ _ _ c.in_err-rest-2.field-0.0 c.from_residual-in_err-rest-2.ensures.1
    (reject_stuck c.in_err-rest-2.ensures.fault (begins_otherwise 97 c.args.text.now c.begins_with.ensures.1 c.if-begins_with.false))
