-- what public clauses cite: what is said of a file, and its laws
pub mod Certified
pub mod Laws
-- for proofs alone: where access words lead, and which states are alike
pub mod Landing
pub mod Alike
pub mod Split
pub mod Columns
pub mod Steps
pub mod Numbers
pub mod Links
pub mod Walk
pub mod Joined
pub mod Built
