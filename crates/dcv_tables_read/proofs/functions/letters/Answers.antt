use Rattle.std.proofs.Common.{ℕ, List, [], ◌+◌, get_or, arith}
use Rattle.std.specs.Borrow.{Bor}
use Rattle.dcv_c_tables.specs.Layout.{text_in, letter_line}
use Rattle.dcv_c_tables.specs.Observer.{parameter_name}
use Rattle.dcv_automaton_lines.proofs.WordSets.{passes}
use Rattle.dcv_tables_read.proofs.Chain.{none_read, part_stuck, part_read, all_read}
use Rattle.dcv_tables_read.proofs.StepTexts.{letters_from, letters_next, letters_end}
use Rattle.dcv_tables_read.proofs.functions.letters.Goals as goal

pub loop-number-init : goal.loop-number-init
loop-number-init c = none_read _ _

pub returns-in_err-rest-clause-fault : goal.returns-in_err-rest-clause-fault
returns-in_err-rest-clause-fault c =
    passes _ _ _ c.in_err-rest.field-0.0 c.from_residual.ensures.1
    (part_stuck c.loop-number.invariant _ (letters_from (c.loop-number.number + 1) c.args.names.now)
    (letters_next c.args.names.now c.loop-number.number _ c.loop-number-test.true) c.in_err-rest.ensures.fault)

pub loop-number-preserved : goal.loop-number-preserved
loop-number-preserved c =
    let none : Bor (List ℕ) = record { ref_ptr = (0, 0); now = [] } in
    let name = (get_or c.args.names.now c.loop-number.number none).now in
    part_read c.loop-number.invariant (text_in (letter_line (c.loop-number.number, parameter_name name))) (letters_from (c.loop-number.number + 1) c.args.names.now)
    (letters_next c.args.names.now c.loop-number.number none c.loop-number-test.true) c.in_ok-rest.ensures.ok

pub returns-clause-ok : goal.returns-clause-ok
returns-clause-ok c =
    all_read c.loop-number.invariant (letters_end c.args.names.now c.loop-number.number (let past = c.loop-number-test.false in omega (arith, past)))
