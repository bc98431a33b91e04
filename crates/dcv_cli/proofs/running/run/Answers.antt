-- The words ask for the request that was read, and what is done for it keeps the promise.
use Rattle.dcv_command.specs.Seen.{asked_by, HasText, IsUsageOnlyWhere}
use Rattle.dcv_cli.proofs.Common.{◌≡◌, ℕ, List, true, sym, ap, ◌∙◌, subst, string_bytes, IsTaken}
use Rattle.clap.specs.Words.{takes}
use Rattle.dcv_command.specs.Program.{program}
use Rattle.dcv_cli.specs.Outside.{outside}
use Rattle.dcv_cli.proofs.Endings.{tells}
use Rattle.dcv_cli.proofs.Promises.{asks_for, promise_of_answer, promise_of_misuse, promise_of_refusal}
use Rattle.dcv_cli.proofs.running.run.Goals as goal

pub returns-in-Ok-perform : goal.returns-in-Ok-perform
returns-in-Ok-perform g c =
    promise_of_answer (asks_for c.as_slice.result.now c.args.words.now (asked_by c.in-Ok.request) c.as_slice.ensures c.in-Ok.ensures.taken c.in-Ok.ensures.asked)
    c.in-Ok-perform.status c.in-Ok-perform.ensures

pub returns-in-Err : goal.returns-in-Err
returns-in-Err g c =
    promise_of_refusal (asks_for c.as_slice.result.now c.args.words.now (asked_by c.in-Ok.request) c.as_slice.ensures c.in-Ok.ensures.taken c.in-Ok.ensures.asked)
    c.in-Err.refused c.refuse-in-Err.result c.refuse-in-Err.ensures.status c.in-Err.ensures c.refuse-in-Err.ensures.message

pub returns-in-Err-Usage : goal.returns-in-Err-Usage
returns-in-Err-Usage g c =
    let text = c.as_bytes.result.now in
    let given = c.in-Err-Usage.ensures in
    let is = c.in-Err-Usage.field-0-is in
    let old = g.E.Sink.written c.args.err.now in
    let new = g.E.Sink.written c.write_all.new.sink in
    let faults = g.E.Sink.faults c.args.err.now in
    let count = g.E.Sink.faults c.write_all.new.sink in
    promise_of_misuse c.args.words.now (outside g.F.Files g.O.Sink c.args.files.now c.args.out.now) old new faults count text
    (subst (λ (words : List (List ℕ)). ¬ (IsTaken words)) c.as_slice.ensures (subst (IsUsageOnlyWhere _) is given.usage))
    (subst (λ (words : List (List ℕ)). ¬ (takes program words ≡ true)) c.as_slice.ensures (subst (IsUsageOnlyWhere _) is given.passes))
    (λ none. subst HasText is given.text (sym (ap string_bytes c.in-Err-Usage.text-is) ∙ sym c.as_bytes.ensures.value ∙ none))
    (tells text old new faults count c.write_all.result c.write_all.ensures.ok c.write_all.ensures.failed c.write_all.ensures.faults)
