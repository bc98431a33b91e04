-- the statements that `src` proves
pub mod Laws
-- what a diagram is of a function that is given by its table
pub mod Diagrams
