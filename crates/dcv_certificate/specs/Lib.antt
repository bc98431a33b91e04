-- what public clauses cite: how access words and suffixes are spelled, and what they show
pub mod Proof
-- for proofs alone: states that are told apart by suffixes, and functions that say where a suffix goes on
pub mod Spelling
pub mod Vertices
pub mod Separation
pub mod Partition
pub mod Marks
pub mod Tallies
pub mod Ones
pub mod Indicators
