-- What public clauses say: the meaning of a file, from the truths of a name up to the words that model it.
pub mod Track
pub mod Search
pub mod Environment
pub mod Newest
pub mod Connectives
pub mod Value
pub mod Satisfaction
pub mod Models
pub mod Laws
