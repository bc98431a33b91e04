use Rattle.dcv_word.proofs.Readings.{one_reading, Ok-reading}
use Rattle.dcv_word.proofs.lines.read_trace_line.Goals as goal

pub returns-else-width-eq0-clause-only : goal.returns-else-width-eq0-clause-only
returns-else-width-eq0-clause-only c =
    λ answer h. one_reading c.args.width c.args.line.now c.read_digits.result answer c.read_digits.ensures h

pub returns-else-width-eq0-clause-letter : goal.returns-else-width-eq0-clause-letter
returns-else-width-eq0-clause-letter c =
    λ letter. Ok-reading c.args.width c.args.line.now c.read_digits.result letter c.read_digits.ensures
