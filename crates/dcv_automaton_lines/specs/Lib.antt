-- what public clauses cite: lines of the code as plain data
pub mod Seen
-- the statements that `src/laws.rt` proves
pub mod Laws
-- for functions within the crate alone: sets of texts, the parts of the text as such sets, how lines are gathered, and where
-- reading stops
pub mod Pieces
pub mod Parts
pub mod Gathered
pub mod Stops
