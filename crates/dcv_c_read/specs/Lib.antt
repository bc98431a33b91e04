-- how clauses see a unit that stands in a text
pub mod Seen
-- for proofs alone: the parts of the code, and how they are taken
pub mod Symbols
pub mod Taken
-- and how names are judged
pub mod Judged
pub mod Scope
pub mod Contents
