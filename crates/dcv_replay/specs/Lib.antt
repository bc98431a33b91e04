-- what the clauses of public calls cite
pub mod TraceText
pub mod Answers
pub mod Program
pub mod Seen
pub mod Observer
pub mod Coming
pub mod Replayed
-- what proofs alone need
pub mod Stops
pub mod Running
pub mod Selecting
pub mod OfUnit
pub mod OfNode
pub mod Laws
