use Rattle.dcv_word.specs.LetterFacts.{length-letter_of, bits_of-letter_of}
use Rattle.dcv_word.proofs.Bits.{letter_of-bits_of, bits_of-lt}
use Rattle.dcv_word.proofs.laws.letters_are_numbers.Goals as goal

pub returns-clause-width : goal.returns-clause-width
returns-clause-width c = length-letter_of

pub returns-clause-letter : goal.returns-clause-letter
returns-clause-letter c = letter_of-bits_of

pub returns-clause-bits : goal.returns-clause-bits
returns-clause-bits c = bits_of-letter_of

pub returns-clause-bound : goal.returns-clause-bound
returns-clause-bound c = bits_of-lt
