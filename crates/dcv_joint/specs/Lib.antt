-- what public clauses cite: names, the core over them, and the laws
pub mod Names
pub mod Moved
pub mod Faults
pub mod Laws
