pub mod FirstBytes
pub mod Cuts
pub mod Decimals
pub mod Longest
pub mod Fronts
pub mod Lexers
pub mod ByFirst
pub mod ClassTables
