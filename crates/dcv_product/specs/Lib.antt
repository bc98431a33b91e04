-- the machine of a product: the states that are kept as numbers
pub mod Merged
