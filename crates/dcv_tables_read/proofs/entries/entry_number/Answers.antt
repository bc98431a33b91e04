use Rattle.std.proofs.Common.{sym, subst}
use Rattle.dcv_automaton_lines.specs.Stops.{IsStuckAt}
use Rattle.dcv_automaton_lines.proofs.WordSets.{carried}
use Rattle.dcv_tables_read.specs.declared.entries.Entry.{Entry}
use Rattle.dcv_tables_read.specs.Parts.{EntrySet}
use Rattle.dcv_tables_read.proofs.Numbers.{counted_stuck}
use Rattle.dcv_tables_read.proofs.entries.entry_number.Goals as goal

pub returns-in-Number-clause-fault : goal.returns-in-Number-clause-fault
returns-in-Number-clause-fault c =
    subst (λ (entry : Entry). IsStuckAt (EntrySet entry) c.args.text.now c.number.result) (sym c.in-Number.is)
    (carried _ _ _ _ _ (λ left stuck. counted_stuck 44 stuck) c.number.ensures.fault)
