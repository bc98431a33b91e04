-- what public clauses cite: the unit as plain data, its meaning, its rules, its text, and that of an automaton's file
pub mod Unit
pub mod Meaning
pub mod Rules
pub mod Layout
pub mod Observer
pub mod Laws
