-- what public clauses cite: stuck words and the least of them, and the laws of these
pub mod Stuck
pub mod Laws
-- for proofs alone: the automaton of the stuck words
pub mod Sink
