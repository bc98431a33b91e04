-- what public clauses cite: the comparison of two sets of words, and its laws
pub mod Comparison
pub mod Laws
-- for the `From` of a fault alone
pub mod Faults
-- for proofs alone: two automata beside each other
pub mod Sides
