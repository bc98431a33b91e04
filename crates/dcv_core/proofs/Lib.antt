pub mod Aligned
pub mod Chops
pub mod Local
pub mod MadeSteps
pub mod StepList
pub mod Tracks
pub mod TruthRows
pub mod Words
