-- what the clauses of public calls cite
pub mod Asked
pub mod Called
pub mod Disk
pub mod Faults
pub mod FilesState
pub mod Noted
pub mod Plan
pub mod Putting
pub mod RealState
pub mod SinkState
pub mod Taking
pub mod Written
-- what proofs alone need
pub mod HeldFile
