use Rattle.dcv_word.specs.LetterFacts.{length-letter_of, bits_of-letter_of}
use Rattle.dcv_word.proofs.letters.Letter.new.Goals as goal

pub returns-clause-width : goal.returns-clause-width
returns-clause-width c = length-letter_of c.args.width c.args.bits

pub returns-clause-bits : goal.returns-clause-bits
returns-clause-bits c = bits_of-letter_of c.args.width c.args.bits c.requires.bits
