pub mod Listed
pub mod Trees
pub mod EachTree
pub mod Leaves
pub mod SomeReadings
pub mod Names
