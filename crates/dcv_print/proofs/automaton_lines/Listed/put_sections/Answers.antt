use Rattle.dcv_io.proofs.Putting.{puts_both, puts_same}
use Rattle.dcv_language.specs.VerdictText.{verdict_text}
use Rattle.dcv_automaton_text.specs.Spelled.{spelled}
use Rattle.dcv_print.specs.Listed.{listed_file, lustre_text, c_text}
use Rattle.dcv_print.specs.Verdict.{seen_verdict}
use Rattle.dcv_print.proofs.Reports.{in_turn}
use Rattle.dcv_print.proofs.automaton_lines.Listed.put_sections.Goals as goal

pub returns : goal.returns
returns g c =
    let listed = c.args.self.now in
    puts_same _ _ _ _ (puts_both _ _ _ _ _ c.put_verdict.ensures (puts_both _ _ _ _ _ c.put.ensures c.put_observers.ensures))
    (in_turn (verdict_text (seen_verdict c.args.verdict.now)) (spelled (listed_file listed)) (lustre_text listed.lined) (c_text listed.lined))
