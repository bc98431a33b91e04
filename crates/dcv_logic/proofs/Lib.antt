pub mod InWords
pub mod Stars
