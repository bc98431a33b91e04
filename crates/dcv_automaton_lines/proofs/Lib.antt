-- where a text of several words is stuck
pub mod Pieces
-- where one is stuck in a word
pub mod WordSets
-- sets are told apart by first bytes
pub mod Opening
-- and lines without their first word
pub mod LineSets
-- the lines of steps
pub mod StepSets
-- lines of each kind, and what may follow them
pub mod KindSets
-- lines are gathered
pub mod Gathering
-- steps are read one after another
pub mod StepLines
-- the names of the line of variables
pub mod NameSets
-- and the whole text
pub mod WholeText
-- what stands at the front of any text: its words
pub mod ReadWords
-- and its lines, so that each text has the form or a fault
pub mod ReadForms
-- and one fault at most
pub mod OneFault
