pub mod ListFacts
pub mod MemberFacts
pub mod SetFacts
pub mod Fitted
pub mod MarkFacts
mod IndexFacts
mod WayFacts
mod AddFacts
mod ChainFacts
