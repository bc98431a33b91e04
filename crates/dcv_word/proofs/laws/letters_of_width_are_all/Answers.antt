use Rattle.dcv_word.proofs.AllLetters.{length-letters_of_width, letters_of_width-place, letters_of_width-once, letters_of_width-order, letters_of_width-numbers}
use Rattle.dcv_word.proofs.laws.letters_of_width_are_all.Goals as goal

pub returns-clause-count : goal.returns-clause-count
returns-clause-count c = length-letters_of_width

pub returns-clause-place : goal.returns-clause-place
returns-clause-place c = letters_of_width-place

pub returns-clause-once : goal.returns-clause-once
returns-clause-once c = letters_of_width-once

pub returns-clause-order : goal.returns-clause-order
returns-clause-order c = letters_of_width-order

pub returns-clause-numbers : goal.returns-clause-numbers
returns-clause-numbers c = letters_of_width-numbers
