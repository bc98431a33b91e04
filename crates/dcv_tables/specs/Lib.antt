-- what clauses on diagrams cite
pub mod Below
pub mod Rows
pub mod Parity
-- and on automata and words that are written as texts
pub mod Tables
pub mod Spelled
