use Rattle.std.proofs.Common.{subst}
use Rattle.dcv_automaton_lines.specs.Parts.{Whole}
use Rattle.dcv_automaton_lines.specs.Stops.{IsFaultBy}
use Rattle.dcv_automaton_lines.specs.declared.stop.Stop.{Stop}
use Rattle.dcv_automaton_lines.proofs.WholeText.{syntax_fault}
use Rattle.dcv_automaton_lines.proofs.reading.lines_of.Goals as goal

pub returns-in-Err-Syntax-clause-fault : goal.returns-in-Err-Syntax-clause-fault
returns-in-Err-Syntax-clause-fault c =
    (syntax_fault c.args.text.now c.in-Err-Syntax.stuck.left.now
    (subst (λ (stop : Stop). IsFaultBy Whole c.args.text.now stop) c.in-Err-Syntax.field-0-is c.in-Err-Syntax.ensures.fault)).1
