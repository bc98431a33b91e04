-- what public clauses cite: the words of shifts, their machines, and what `src/laws.rt` proves of them
pub mod Shifts
pub mod Machines
pub mod Laws
