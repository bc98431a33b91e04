-- what public clauses cite: the row of each step, the budget, the counts, and their laws
pub mod Rows
pub mod Budget
pub mod Counts
pub mod Laws
-- numbers for the states of rows
pub mod Numbers
pub mod Given
-- for proofs alone: what is explored, what is known of it, and what waits while steps are built
pub mod Bounds
pub mod Settled
pub mod Asked
pub mod Building
pub mod Tasks
