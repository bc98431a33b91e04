-- What public clauses say.
pub mod Shifting
pub mod Tracks
pub mod Laws
-- How clauses see the values of the code.
pub mod ShiftViews
-- What its loops go over.
pub mod ShiftSteps
