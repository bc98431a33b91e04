pub mod ColumnNumbers
pub mod RowNumbers
pub mod SameSets
pub mod SetBits
