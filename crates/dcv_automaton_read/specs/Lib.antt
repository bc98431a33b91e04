-- what public clauses cite: an automaton that was read as plain data, what the reader answers, and its laws
pub mod Seen
pub mod File
pub mod Read
pub mod Laws
-- for functions within the crate alone: the words of a text judged in turn by their numbers, where words stand, and the way
-- through a row
pub mod Parts
pub mod Judged
pub mod Starts
pub mod Walk
