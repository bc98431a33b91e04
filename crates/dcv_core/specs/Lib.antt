-- What public clauses say.
pub mod Core
pub mod Holds
pub mod Steps
pub mod Slots
pub mod StepWords
pub mod Laws
-- How clauses see the values of the code.
pub mod TruthCode
pub mod TruthViews
pub mod StepViews
