use Rattle.std.proofs.Common.{◌≡◌, ◌<◌, ◌+◌, ◌∙◌, [], sym, ap, not, false, subst, arith, length}
use Rattle.std.proofs.lemmas.List.{get_or_default}
use Rattle.dcv_automaton_text.specs.Meaning.{table_of}
use Rattle.dcv_certify.specs.Columns.{IsColumn}
use Rattle.dcv_certify.proofs.Bits.{IsColumnSoFar, column_first, column_more, flags_done, bit_of_state}
use Rattle.dcv_certify.proofs.columns.flags.Goals as goal
use Rattle.dcv_certify.proofs.columns.flags.Goals.{After-states-state-end}

-- the table has as many states as the file
size : (c : After-states-state-end) → length (table_of c.args.file.now) ≡ c.states-state-end.result
size c = c.good_files_are_tables.ensures.states c.args.file.now c.keeps_the_rules.ensures ∙ sym c.states-state-end.ensures

some : (c : After-states-state-end) → 0 < length (table_of c.args.file.now)
some c = (c.good_files_are_tables.ensures.table c.args.file.now c.keeps_the_rules.ensures).nonempty

pub loop-state-init : goal.loop-state-init
loop-state-init c = column_first (table_of c.args.file.now) [] c.new-column.result.items c.new-column.ensures.items

pub loop-state-preserved : goal.loop-state-preserved
loop-state-preserved c =
    let table = table_of c.args.file.now in
    let here = (goal.at.loop-state-preserved c).After-states-state-end in
    let within : c.loop-state.state < length table = omega (arith, c.loop-state-test.true, size here) in
    subst (λ column. IsColumnSoFar table [] column (c.loop-state.state + 1)) (sym c.in_ok-push.ensures.items)
    (column_more table [] c.loop-state.column.items c.loop-state.state c.accepting.result c.loop-state.invariant
    (c.accepting.ensures ∙ sym (bit_of_state table c.loop-state.state [] within)))

pub index-requires : goal.index-requires
index-requires c =
    let here = (goal.at.index-requires c).After-states-state-end in
    omega (arith, c.loop-state.invariant.count_is, c.loop-state.column.ok.0, size here, some here, c.loop-state-test.false)

pub returns : goal.returns
returns c =
    let table = table_of c.args.file.now in
    let here = (goal.at.returns c).After-states-state-end in
    let all : c.loop-state.state ≡ length table = omega (arith, c.loop-state-test.false, c.loop-state.auto.state-end, size here) in
    subst (IsColumn table []) (sym c.in_ok-push-2.ensures.items)
    (flags_done table c.loop-state.column.items _ (some here) (subst (IsColumnSoFar table [] c.loop-state.column.items) all c.loop-state.invariant)
    (ap not (c.index.ensures ∙ get_or_default c.loop-state.column.items 0 c.index.result.now false (omega (arith, c.loop-state.invariant.count_is, all, some here)))))
