-- what public clauses cite: sentences and verdicts, the test of grammars, derivation trees, and what a reader has taken
pub mod Grammar
pub mod Predictive
pub mod Trees
pub mod Taking
-- what those stand on: sets of classes, and which body a class picks
pub mod ClassSet
pub mod Picked
-- for proofs alone: the reader's stack
pub mod Machine
