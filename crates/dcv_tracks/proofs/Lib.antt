-- The steps of a goal, one after another, with slots in place of its shifts, and closed.
pub mod GoalSteps
pub mod PlacedSteps
pub mod ClosingSteps
-- The list of a goal's shifts.
pub mod Sameness
pub mod Order
pub mod Unbound
-- What its tracks are, and what the core says on them.
pub mod Standing
pub mod Rows
pub mod OneList
pub mod Closing
pub mod ClosedSlots
pub mod NoShifts
