use Rattle.std.proofs.Common.{◌≡◌, ◌<◌, ◌-◌, length, ap, ◌∙◌, arith}
use Rattle.dcv_automaton_lines.proofs.Gathering.{map_more, map_length}
use Rattle.dcv_tables_read.specs.Values.{words_in}
use Rattle.dcv_tables_read.proofs.Chain.{stops}
use Rattle.dcv_tables_read.proofs.NameLists.{name_stuck, name_read, names_read, names_spelled}
use Rattle.dcv_tables_read.proofs.functions.names.Goals as goal

pub returns-in_err-next-clause-fault : goal.returns-in_err-next-clause-fault
returns-in_err-next-clause-fault c =
    let names = c.loop-names.names.items in
    let size : length (words_in names) ≡ length names = map_length (λ name. name.now) names in
    let some = c.loop-names-test.true in
    stops _ _ _ c.in_err-next.field-0.0 c.from_residual.ensures.1
    (name_stuck c.loop-names.invariant (omega (arith, some, size)) (c.args.count - c.len-in-loop-names.result - 1) (let counted = c.len-in-loop-names.ensures in omega (arith, counted, size))
    c.after_name.ensures.is c.in_err-next.ensures.fault)

pub loop-names-preserved : goal.loop-names-preserved
loop-names-preserved c =
    let names = c.loop-names.names.items in
    let size : length (words_in names) ≡ length names = map_length (λ name. name.now) names in
    let some = c.loop-names-test.true in
    name_read c.loop-names.invariant (omega (arith, some, size)) (c.args.count - c.len-in-loop-names.result - 1) (let counted = c.len-in-loop-names.ensures in omega (arith, counted, size))
    c.after_name.ensures.is c.in_ok-next.next.now c.in_ok-next.ensures.word c.in_ok-next.ensures.spelled
    (ap words_in c.in_ok-push.ensures.items ∙ map_more (λ name. name.now) names c.in_ok-next.next)

pub returns : goal.returns
returns c =
    let names = c.loop-names.names.items in
    let size : length (words_in names) ≡ length names = map_length (λ name. name.now) names in
    let full = c.loop-names-test.false in
    let over : length (words_in names) < c.args.count → ⊥ = λ less. omega (arith, less, full, size) in
    record { words = names_read c.loop-names.invariant over; spelled = names_spelled c.loop-names.invariant over; fault = tt }
