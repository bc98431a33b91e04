-- what public clauses cite: the automaton that has the fewest states
pub mod Minimal
-- for proofs alone: states in blocks, and how they are divided further
pub mod Partition
pub mod Rounds
pub mod Hashes
pub mod Keys
pub mod Division
pub mod Listing
pub mod Refining
-- the classes with their numbers, and the automaton of these
pub mod Classes
pub mod Folded
pub mod OwnNodes
