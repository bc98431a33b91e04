use Rattle.std.proofs.Common.{ap}
use Rattle.std.proofs.lemmas.List.{take_all}
use Rattle.dcv_language.specs.declared.child.Child.TheVariants.{State}
use Rattle.dcv_dfa.specs.Raw.{RawValue}
use Rattle.dcv_io.proofs.Putting.{puts_further, puts_nothing, puts_same}
use Rattle.dcv_automaton_file.specs.File.{state_line}
use Rattle.dcv_automaton_file.specs.Lines.{row_text}
use Rattle.dcv_automaton_file.proofs.PutLines.{lines_text, line_more}
use Rattle.dcv_automaton_file.proofs.lines.put_rows.Goals as goal

pub loop-number-init : goal.loop-number-init
loop-number-init g c = λ (raw : RawValue). puts_nothing _

pub loop-number-preserved : goal.loop-number-preserved
loop-number-preserved g c = λ (raw : RawValue).
    puts_further _ _ _ _ _ _ (c.loop-number.invariant raw) c.put_row.ensures
    (line_more (row_text c.args.layout.now) (state_line raw) c.args.rows.now c.loop-number.number (State 0) c.loop-number-test.true)

pub returns : goal.returns
returns g c = λ (raw : RawValue).
    puts_same _ _ _ _ (c.loop-number.invariant raw)
    (ap (lines_text (row_text c.args.layout.now) (state_line raw)) (take_all c.loop-number.number c.args.rows.now c.loop-number-test.false))
