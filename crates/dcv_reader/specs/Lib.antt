-- what public clauses cite: the file that a text spells
pub mod Nodes
pub mod Actions
pub mod Spelling
pub mod Laws
-- for proofs alone: how the parts of the code are seen
pub mod Lists
pub mod Parts
