pub mod Cuts
pub mod Sources
pub mod ClassLaws
