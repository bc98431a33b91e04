use Rattle.std.proofs.Common.{ap, ◌∙◌, arith}
use Rattle.dcv_word.specs.Letter.{letter_of}
use Rattle.dcv_word.proofs.Readings.{Letter-reading}
use Rattle.dcv_word.proofs.lines.read_digits.Goals as goal

pub returns : goal.returns
returns c =
    Letter-reading c.args.width c.args.line.now c.new.result c.requires.some c.in_default.ensures.none (omega arith) (c.new.ensures.letter ∙ ap (letter_of c.args.width) c.number_of.ensures.value)
