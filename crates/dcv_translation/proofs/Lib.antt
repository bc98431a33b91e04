pub mod Running
pub mod Passed
pub mod Reversed
