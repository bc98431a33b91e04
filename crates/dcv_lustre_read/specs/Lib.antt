-- how clauses see a node that stands in a text
pub mod Seen
-- for proofs alone: the parts of the code, and the steps of long bodies
pub mod Symbols
pub mod Taken
-- and how names are judged
pub mod Judged
pub mod Scope
pub mod Contents
