use Rattle.std.proofs.Common.{take}
use Rattle.dcv_io.specs.Putting.{Puts}
use Rattle.dcv_dfa.specs.Raw.{RawValue}
use Rattle.dcv_automaton_file.specs.File.{state_line}
use Rattle.dcv_automaton_file.specs.Lines.{row_text}
use Rattle.dcv_automaton_file.proofs.PutLines.{lines_text}
use Rattle.dcv_automaton_file.proofs.lines.put_rows.Given as goal

-- the lines so far are put
abbrev pub invariant-loop-number : goal.invariant-loop-number
invariant-loop-number g l =
    (raw : RawValue) → Puts (g.T.Target.standing l.fn.target) (g.T.Target.standing l.target) (lines_text (row_text l.layout) (state_line raw) (take l.number l.rows))
