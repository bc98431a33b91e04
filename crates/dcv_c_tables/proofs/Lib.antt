pub mod Examples
pub mod Letters
pub mod Walks
pub mod Ends
pub mod Accepts
pub mod Arrays
pub mod Text
