-- The words in which the promises are made.
pub mod Promises
