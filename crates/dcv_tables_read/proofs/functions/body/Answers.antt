use Rattle.dcv_automaton_lines.proofs.WordSets.{passes}
use Rattle.dcv_tables_read.specs.Values.{words_in}
use Rattle.dcv_tables_read.proofs.StepTexts.{in_locals, in_letters, in_walk, body_read}
use Rattle.dcv_tables_read.proofs.functions.body.Goals as goal

pub returns-in_err-named-clause-fault : goal.returns-in_err-named-clause-fault
returns-in_err-named-clause-fault c =
    passes _ _ _ c.in_err-named.field-0.0 c.from_residual.ensures.1
    (in_locals c.args.integer.now c.args.some (words_in c.args.names.now) _ c.if_some-letter.ensures c.in_err-named.ensures.fault)

pub returns-in_err-walk-clause-fault : goal.returns-in_err-walk-clause-fault
returns-in_err-walk-clause-fault c =
    passes _ _ _ c.in_err-walk.field-0.0 c.from_residual-in_err-walk.ensures.1
    (in_letters c.args.integer.now c.args.some (words_in c.args.names.now) _ c.if_some-letter.ensures _ _ c.in_ok-named.ensures.ok c.in_err-walk.ensures.fault)

pub returns-in_err-rest-clause-fault : goal.returns-in_err-rest-clause-fault
returns-in_err-rest-clause-fault c =
    passes _ _ _ c.in_err-rest.field-0.0 c.from_residual-in_err-rest.ensures.1
    (in_walk c.args.integer.now c.args.some (words_in c.args.names.now) _ c.if_some-letter.ensures _ _ c.in_ok-named.ensures.ok _ c.in_ok-walk.ensures.ok
    _ c.if_some-walked.ensures c.in_err-rest.ensures.fault)

pub returns-clause-ok : goal.returns-clause-ok
returns-clause-ok c =
    body_read c.args.integer.now c.args.some (words_in c.args.names.now) _ c.if_some-letter.ensures _ _ c.in_ok-named.ensures.ok _ c.in_ok-walk.ensures.ok
    _ c.if_some-walked.ensures _ c.in_ok-rest.ensures.ok
