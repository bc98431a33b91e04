-- The text of the verdict that was found says it, and so whatever verdict there is.
use Rattle.std.proofs.Common.{◌≡◌}
use Rattle.std.proofs.lemmas.Result.{IfOk-weaker}
use Rattle.dcv_dfa.specs.Raw.{raw_accepts}
use Rattle.dcv_language.specs.VerdictText.{verdict_text}
use Rattle.dcv_print.specs.Verdict.{seen_verdict}
use Rattle.dcv_print.specs.Said.{SaysSomeVerdict, SaysEachVerdict}
use Rattle.dcv_print.proofs.Texts.{says_each}
use Rattle.dcv_print.proofs.verdicts.verdict_text.Goals as goal

pub returns-clause-some : goal.returns-clause-some
returns-clause-some c =
    let k = c.args.auto.now.arena.slots in
    let L = raw_accepts c.args.auto.now in
    let found = seen_verdict c.in_ok-verdict.field-0 in
    IfOk-weaker c.text.result (λ text. text.items ≡ verdict_text found) (λ text. SaysSomeVerdict k L text.items)
    (λ text says. record { verdict = found; is = c.in_ok-verdict.ensures; says = says }) c.text.ensures

pub returns-clause-each : goal.returns-clause-each
returns-clause-each c =
    let k = c.args.auto.now.arena.slots in
    let L = raw_accepts c.args.auto.now in
    let found = seen_verdict c.in_ok-verdict.field-0 in
    IfOk-weaker c.text.result (λ text. text.items ≡ verdict_text found) (λ text. SaysEachVerdict k L text.items)
    (λ text says. says_each c.one_verdict.ensures k L found text.items c.in_ok-verdict.ensures says) c.text.ensures
