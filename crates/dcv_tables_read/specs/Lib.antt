-- what public clauses cite: the form, the rules and faults, a unit of the code as plain data, and the laws
pub mod Form
pub mod Reading
pub mod Seen
pub mod Judged
pub mod Laws
-- for functions within the crate alone: the parts of the text as sets of texts, and what was read of them
pub mod Parts
pub mod Values
