-- what public clauses cite, here and above: behaviours, letters, words, and their lines in a trace
pub mod Behaviour
pub mod Letter
pub mod Word
pub mod TraceLine
-- the statements that `src/laws.rt` proves
pub mod Laws
-- for the impls of `Letter` alone: proofs that they cite
pub mod LetterFacts
