use Rattle.std.proofs.Common.{◌≡◌, ◌+◌, [], length, ap, refl, subst, ◌∙◌, arith}
use Rattle.std.proofs.lemmas.List.{length-map}
use Rattle.dcv_c_tables.specs.Layout.{type_for, type_of}
use Rattle.dcv_tables_read.specs.Reading.{keeps_parameters, parameter_words}
use Rattle.dcv_tables_read.specs.Judged.{IsJudgedWhole, parameters_of, parameters_size}
use Rattle.dcv_tables_read.specs.Seen.{seen_node, seen_state, seen_tables}
use Rattle.dcv_tables_read.proofs.WholeLemmas.{names_at, names_begin, text_size, at_counts, at_nodes, at_rows, at_names}
use Rattle.dcv_tables_read.proofs.rules.judge.Goals as goal
use Rattle.dcv_tables_read.proofs.rules.judge.Goals.{After-integer-integer}

integer_is : (c : After-integer-integer) → c.integer-integer.result.now ≡ type_of (seen_tables c.args.unit.now)
integer_is c =
    let count : c.len.result + c.len-2.result ≡ length (seen_tables c.args.unit.now).states + length (seen_tables c.args.unit.now).nodes =
    omega (arith, c.len.ensures, c.len-2.ensures, length-map c.args.unit.now.states.items seen_state, length-map c.args.unit.now.nodes.items seen_node) in
    c.integer-integer.ensures.is ∙ ap type_for count

pub returns-in_err-arrays : goal.returns-in_err-arrays
returns-in_err-arrays c =
    let tables = seen_tables c.args.unit.now in
    at_counts tables (type_of tables) refl c.from_residual.result c.in_err-arrays.field-0.0 c.from_residual.ensures.1 c.in_err-arrays.ensures.judged

pub judge_nodes-requires-clause-room : goal.judge_nodes-requires-clause-room
judge_nodes-requires-clause-room c =
    let tables = seen_tables c.args.unit.now in
    let is = integer_is (goal.at.judge_nodes-requires-clause-room c).After-integer-integer in
    let begins = names_begin tables c.integer-integer.result.now is in
    let fits = text_size tables c.integer-integer.result.now is in
    omega (arith, begins, fits, c.requires, c.in_ok-arrays.ensures.judged.1)

pub returns-in_err-rows : goal.returns-in_err-rows
returns-in_err-rows c =
    at_nodes (seen_tables c.args.unit.now) c.integer-integer.result.now (integer_is (goal.at.returns-in_err-rows c).After-integer-integer) c.from_residual-in_err-rows.result
    c.in_ok-arrays.ensures.judged.0 c.in_ok-arrays.arrays c.in_ok-arrays.ensures.judged.1 c.in_err-rows.field-0.0 c.from_residual-in_err-rows.ensures.1 c.in_err-rows.ensures

pub judge_rows-requires-clause-room : goal.judge_rows-requires-clause-room
judge_rows-requires-clause-room c =
    let tables = seen_tables c.args.unit.now in
    let is = integer_is (goal.at.judge_rows-requires-clause-room c).After-integer-integer in
    let begins = names_begin tables c.integer-integer.result.now is in
    let fits = text_size tables c.integer-integer.result.now is in
    omega (arith, begins, fits, c.requires, c.in_ok-arrays.ensures.judged.1, c.in_ok-rows.ensures.1)

pub returns-in_err-accepts : goal.returns-in_err-accepts
returns-in_err-accepts c =
    at_rows (seen_tables c.args.unit.now) c.integer-integer.result.now (integer_is (goal.at.returns-in_err-accepts c).After-integer-integer) c.from_residual-in_err-accepts.result
    c.in_ok-arrays.ensures.judged.0 c.in_ok-arrays.arrays c.in_ok-arrays.ensures.judged.1 c.in_ok-rows.ensures.0 c.in_ok-rows.rows c.in_ok-rows.ensures.1
    c.in_err-accepts.field-0.0 c.from_residual-in_err-accepts.ensures.1 c.in_err-accepts.ensures

pub parameters_at-requires-clause-room : goal.parameters_at-requires-clause-room
parameters_at-requires-clause-room c =
    let tables = seen_tables c.args.unit.now in
    let is = integer_is (goal.at.parameters_at-requires-clause-room c).After-integer-integer in
    let begins = names_begin tables c.integer-integer.result.now is in
    let fits = text_size tables c.integer-integer.result.now is in
    omega (arith, begins, fits, c.requires, c.in_ok-arrays.ensures.judged.1, c.in_ok-rows.ensures.1, c.in_ok-accepts.ensures.1, c.len-3.ensures, length-map c.args.unit.now.states.items seen_state)

pub judge_names-requires : goal.judge_names-requires
judge_names-requires c =
    let tables = seen_tables c.args.unit.now in
    let is = integer_is (goal.at.judge_names-requires c).After-integer-integer in
    let begins = names_begin tables c.integer-integer.result.now is in
    let fits = text_size tables c.integer-integer.result.now is in
    let names = ap (λ names. parameters_size (parameters_of names)) c.deref.ensures.value in
    omega (
      arith,
      begins,
      fits,
      names,
      c.requires,
      c.in_ok-arrays.ensures.judged.1,
      c.in_ok-rows.ensures.1,
      c.in_ok-accepts.ensures.1,
      c.parameters_at.ensures,
      c.len-3.ensures,
      length-map c.args.unit.now.states.items seen_state,
    )

pub returns : goal.returns
returns c =
    let tables = seen_tables c.args.unit.now in
    let is = integer_is (goal.at.returns c).After-integer-integer in
    let begins = names_begin tables c.integer-integer.result.now is in
    let first : c.parameters_at.result ≡ names_at tables c.integer-integer.result.now is =
    omega (
      arith,
      begins,
      c.in_ok-arrays.ensures.judged.1,
      c.in_ok-rows.ensures.1,
      c.in_ok-accepts.ensures.1,
      c.parameters_at.ensures,
      c.len-3.ensures,
      length-map c.args.unit.now.states.items seen_state,
    ) in
    at_names tables c.integer-integer.result.now is c.judge_names.result
    c.in_ok-arrays.ensures.judged.0 c.in_ok-arrays.arrays c.in_ok-arrays.ensures.judged.1 c.in_ok-rows.ensures.0 c.in_ok-rows.rows c.in_ok-rows.ensures.1
    c.in_ok-accepts.ensures.0 c.parameters_at.result first
    (subst (λ names. IsJudgedWhole (parameter_words c.parameters_at.result (parameters_of names)) (keeps_parameters [] (parameters_of names)) c.judge_names.result)
    c.deref.ensures.value c.judge_names.ensures)
