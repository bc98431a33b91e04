use Rattle.dcv_automaton_lines.proofs.WordSets.{passes, carried}
use Rattle.dcv_tables_read.proofs.Numbers.{lead_stuck, number_stuck}
use Rattle.dcv_tables_read.proofs.counts.count.Goals as goal

pub returns-in_err-digits-clause-fault : goal.returns-in_err-digits-clause-fault
returns-in_err-digits-clause-fault c =
    passes _ _ _ c.in_err-digits.field-0.0 c.from_residual.ensures.1 (lead_stuck c.args.lead.now c.args.end c.in_err-digits.ensures.fault)

pub returns-clause-fault : goal.returns-clause-fault
returns-clause-fault c =
    carried _ _ _ _ _ (λ left stuck. number_stuck c.args.lead.now c.args.end c.in_ok-digits.ensures.ok stuck) c.number.ensures.fault
