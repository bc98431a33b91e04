pub mod Appending
pub mod Asking
pub mod Giving
pub mod Putting
