use Rattle.std.proofs.lemmas.Result.{IfOk-weaker}
use Rattle.dcv_io.proofs.Putting.{puts_both, puts_same, text_taken}
use Rattle.dcv_automaton_text.specs.Spelled.{spelled}
use Rattle.dcv_language.specs.VerdictText.{verdict_text}
use Rattle.dcv_print.specs.Listed.{lustre_text, c_text}
use Rattle.dcv_print.specs.Printed.{texts_of, printed_file}
use Rattle.dcv_print.specs.Verdict.{seen_verdict}
use Rattle.dcv_print.proofs.Reports.{in_turn, says_node, says_unit}
use Rattle.dcv_print.proofs.report.all_text.Goals as goal

pub returns : goal.returns
returns c =
    let raw = c.args.auto.now in
    let names = c.args.names.now in
    let lined = c.in_ok-lined.lined in
    let automaton = spelled (printed_file raw (texts_of names) c.args.proof.now.access c.args.proof.now.suffixes c.args.counts.now) in
    IfOk-weaker c.finish.result _ _
    (λ text says. record {
      verdict = seen_verdict c.in_ok-verdict.verdict;
      node = lustre_text lined;
      unit = c_text lined;
      is_verdict = c.in_ok-verdict.ensures;
      is_node = says_node lined raw names c.in_ok-lined.ensures.auto c.in_ok-lined.ensures.names;
      is_unit = says_unit lined raw names c.in_ok-lined.ensures.auto c.in_ok-lined.ensures.names;
      says = says;
    })
    (text_taken _ _ c.put_observers.new.target.bytes c.put_observers.new.target.failed c.finish.result _ c.new-text.ensures.bytes c.new-text.ensures.failed
    (puts_same _ _ _ _ (puts_both _ _ _ _ _ c.put_verdict.ensures (puts_both _ _ _ _ _ c.put_automaton.ensures c.put_observers.ensures))
    (in_turn (verdict_text (seen_verdict c.in_ok-verdict.verdict)) automaton (lustre_text lined) (c_text lined)))
    c.finish.ensures.failed c.finish.ensures.all)
