-- what public clauses cite, here and above: raw automata as plain data with what they accept, automata that are operands, and canonical ones
pub mod Raw
pub mod Table
pub mod Auto
-- the node lines of an automaton
pub mod NodeLines
-- the statements that `src/laws.rt` proves
pub mod Laws
