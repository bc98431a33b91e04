-- the functions of one arena in another
pub mod Copies
-- what public clauses cite: tables by number, with their widths
pub mod Shelf
-- the form in which tables stand on a shelf
pub mod Stored
