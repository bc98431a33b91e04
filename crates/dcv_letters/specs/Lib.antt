-- what public clauses cite: first letters, and what a search for them is seen as
pub mod FirstLetters
-- for proofs alone: what a walk has seen, and what it finds after a front
pub mod Walk
