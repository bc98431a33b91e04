-- what public clauses cite, here and above: the diagram of functions by plain lists, and an arena's refs and nodes
pub mod Diagram
pub mod Arena
-- the words for operations on diagrams, which stand above: functions that are made letter by letter
pub mod Pointwise
-- the statements that `src/laws.rt` proves
pub mod Laws
-- for proofs alone: the form in which an arena keeps its nodes, and what looking for a node answers
pub mod Stored
pub mod Placing
