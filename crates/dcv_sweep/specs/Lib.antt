-- what public clauses say
pub mod Draw
pub mod DrawnCores
pub mod Findings
pub mod SummaryText
pub mod Laws
-- for proofs alone: the steps of a formula as they are made, and a summary as it grows
pub mod Making
pub mod Counting
