-- what public clauses cite: lines of nodes and rows in the one way in which they are written, the file of an automaton, and its lines in a text
pub mod Listed
pub mod File
pub mod Lines
-- the statements that `src/laws.rt` proves
pub mod Laws
