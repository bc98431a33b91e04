pub mod AccessLines
mod Examples
pub mod GoodFiles
pub mod GoodTables
pub mod InWords
pub mod Kept
pub mod OneFile
pub mod Versions
pub mod Words
