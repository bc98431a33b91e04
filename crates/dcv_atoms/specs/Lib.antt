-- What public clauses say: the machine of a form, the nodes of its proposition's parts, and the laws of both.
pub mod Embedded
pub mod AtomRows
pub mod Parts
pub mod Steps
pub mod AtomValue
pub mod Laws
-- For the `From`s of the faults alone.
pub mod Faults
-- For crates above, which count its states: the two numbers that tell each.
pub mod Leaves
-- For proofs alone: what a form asks of a letter, and how the diagrams of a proposition are built.
pub mod Numbers
pub mod SameStates
pub mod Columns
pub mod Functions
pub mod Rounds
pub mod Built
