-- what public clauses cite: what derivation trees stand for
pub mod Scheme
-- for proofs alone: how far a translation is
pub mod UnderWay
-- and what the next part of a body is
pub mod Taken
