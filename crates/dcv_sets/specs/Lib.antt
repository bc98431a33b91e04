-- what public clauses cite: the rows of listed states as operands, and sets of states as bits
pub mod Rows
pub mod Bits
