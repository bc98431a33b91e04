pub mod Table
pub mod Program
pub mod Request
pub mod Listed
pub mod Laws
pub mod Seen
