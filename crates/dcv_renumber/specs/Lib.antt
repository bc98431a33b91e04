-- what public clauses cite: new numbers, and what places became
pub mod Renumbered
pub mod Became
pub mod Own
-- for proofs alone: the entries of places, of several rounds
pub mod Rounds
