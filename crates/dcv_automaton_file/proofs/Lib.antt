pub mod Tables
pub mod ObservedFiles
pub mod Rows
pub mod Leading
pub mod PutLines
pub mod ListedLines
pub mod FileLines
