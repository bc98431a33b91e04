-- What public clauses say.
pub mod Names
pub mod Measures
pub mod Faults
pub mod CoreOf
pub mod Laws
-- For private functions and proofs: measures as functions of arguments, and what the walks over the text have in sight.
pub mod Unused
pub mod Linear
pub mod Sights
pub mod Walk
pub mod Expansions
