-- what public clauses cite: operands and their numbers, what they are merged into, and a memo
pub mod Operands
pub mod Merged
pub mod Memo
-- for the `From`s of the faults alone
pub mod Faults
-- for proofs alone: the same words of the structs that hold the parts, two operands in 16 bytes, and a memo's collections
pub mod Sources
pub mod Pairs
pub mod Remembered
