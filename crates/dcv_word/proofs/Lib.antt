pub mod AllLetters
pub mod Bits
pub mod Orders
pub mod Readings
