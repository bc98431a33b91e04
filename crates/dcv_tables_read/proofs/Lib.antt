-- where a text is stuck that has several parts
pub mod Chain
-- in the counts line, and in numbers
pub mod Numbers
-- in the lines of an array
pub mod LineLists
-- in names of parameters
pub mod NameLists
-- in arrays
pub mod ArrayTexts
-- in the functions
pub mod StepTexts
-- and in the whole
pub mod WholeTexts
-- words are judged in turn
mod JudgedWords
-- those of an array
mod NumberLemmas
-- those of the arrays of nodes
mod RuleLemmas
-- the parameters
mod NameLemmas
-- and all of a text
mod WholeLemmas
-- what is judged is what a step needs
mod KeptRules
-- so the tables of an automaton are read back
mod ReadBack
-- a text spells one unit, and has one fault at most
mod OneFault
-- and each has a fault, or is read
mod SomeReadings
-- worked units
pub mod ReadExamples
