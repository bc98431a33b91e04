-- what public clauses cite: the grammar, and the faults of a text
pub mod RuleNumbers
pub mod Language
pub mod Faults
-- for proofs alone: what is noted of a text on the way to its first fault
pub mod Scanning
