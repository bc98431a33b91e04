pub mod Answers
mod LeastStuck
mod Onward
pub mod Prefixes
mod Sinks
pub mod SomeStuck
mod StuckWords
