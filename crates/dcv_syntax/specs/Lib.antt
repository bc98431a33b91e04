-- what public clauses cite: places, plain trees, and the trees of the code as such
pub mod Spans
pub mod Plain
pub mod Views
